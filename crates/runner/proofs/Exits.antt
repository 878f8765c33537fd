-- Facts about one way out of a function.
use Rattle.std.proofs.Common.{Result, Ok, Err, OnErr, OnOk}

pub on_err : {A E X : Type 0} (r : Result A E) → X → OnErr r X
on_err (Ok a) x = tt
on_err (Err e) x = x

pub on_err_too : {A E X Y : Type 0} (r : Result A E) → (X → Y) → OnErr r X → OnErr r Y
on_err_too (Ok a) f x = tt
on_err_too (Err e) f x = f x

pub on_ok_too : {A E X Y : Type 0} (r : Result A E) → (X → Y) → OnOk r X → OnOk r Y
on_ok_too (Ok a) f x = f x
on_ok_too (Err e) f x = tt
