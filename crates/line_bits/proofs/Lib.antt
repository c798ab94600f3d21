mod RunMasks
mod SetBits
mod MarkedLines
mod BornLines
