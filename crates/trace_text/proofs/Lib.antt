mod CommandTexts
mod DigitLemmas
mod FirstFour
mod FirstLines
mod ManyDigits
mod NumeralLemmas
pub mod PartLemmas
mod ReaderLemmas
pub mod ReplyTexts
mod ShortLines
mod Spelled
mod TokenLemmas
mod ValidLemmas
mod WholeLines
mod WholeTraces
