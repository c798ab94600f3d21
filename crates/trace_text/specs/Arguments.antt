-- The arguments on a printed line.
use Rattle.std.specs.Prelude.{ℕ, List, ◌∷◌, ◌++◌, codes}
use Rattle.std.specs.Fmt.{decimal}
use Rattle.trace_text.specs.declared.argument.Argument.{Argument}
use Rattle.trace_text.specs.declared.argument.Argument.TheVariants.{Register, Global, Small, Value}

-- a space, the letter if there is one, and the numeral
abbrev pub argument_bytes : Argument → List ℕ
argument_bytes (Register n) = 32 ∷ codes "r" ++ decimal n
argument_bytes (Global n) = 32 ∷ codes "g" ++ decimal n
argument_bytes (Small n) = 32 ∷ decimal n
argument_bytes (Value n) = 32 ∷ decimal n
