-- What lists of vectors hold.
use Rattle.std.specs.Prelude.{Vec, List, map}
use Rattle.std.specs.declared.alloc.Global.{Global}

-- the lists of some vectors
abbrev pub lists_of : {A : Type 0} → List (Vec A Global) → List (List A)
lists_of vs = map (λ v. v.items) vs
