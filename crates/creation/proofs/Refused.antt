-- A refusal for one reason, with another reason that follows from it.
use Rattle.std.proofs.Common.{Result, Ok, Err, IfErr}

pub refused_so : {A E : Type 0} {P Q : E → Type 0} (result : Result A E) → ((e : E) → P e → Q e)
    → IfErr result P → IfErr result Q
refused_so (Ok value) so given = tt
refused_so (Err e) so given = so e given
