-- What is suggested is the name of a number, and so has one.
use Rattle.std.proofs.Common.{◌≡◌, ◌↔◌, ℕ, zero, suc, Bool, true, false, List, Option, Some, None, refl}
use Rattle.std.specs.Prelude.{is_some, if◌then◌else◌}
use Rattle.sys_table.specs.SysTable.{limit_of, name_in, number_in}
use Rattle.sys_table.specs.declared.calls.CallTable.{CallTable}
use Rattle.absent_names.specs.Near.{first, first_from, first_of, is_like, or_else, suggestion}

abbrev pub Agree : CallTable → Type 0
Agree calls = (name : List ℕ) (number : ℕ)
    → (number_in calls name ≡ Some number) ↔ (name_in calls number ≡ Some name)

-- if the choice between a number's name and another named call is a call, it has a number
chosen : (calls : CallTable) (agree : Agree calls) (number : ℕ) (name call : List ℕ)
    (later : Option (List ℕ)) (is : Bool) → name_in calls number ≡ Some name
    → (later ≡ Some call → is_some (number_in calls call) ≡ true)
    → (if is then Some name else later) ≡ Some call → is_some (number_in calls call) ≡ true
chosen calls agree number name call later true named rest h =
    let same : name ≡ call = cc in
    let found = (agree name number).1 named in
    rw (← same) (rw found refl)
chosen calls agree number name call later false named rest h = rest h

at_number : (calls : CallTable) (agree : Agree calls) (once : Bool) (name : List ℕ) (number : ℕ)
    (call : List ℕ) (later here : Option (List ℕ)) → name_in calls number ≡ here
    → (later ≡ Some call → is_some (number_in calls call) ≡ true)
    → first_of once name here later ≡ Some call → is_some (number_in calls call) ≡ true
at_number calls agree once name number call later None named rest h = rest h
at_number calls agree once name number call later (Some one) named rest h =
    chosen calls agree number one call later (is_like once name one) named rest h

among : (calls : CallTable) (agree : Agree calls) (once : Bool) (name : List ℕ) (number count : ℕ)
    (call : List ℕ) → first_from calls once name number count ≡ Some call → is_some (number_in calls call) ≡ true
among calls agree once name number zero call h = cc
among calls agree once name number (suc count) call h =
    let later : first_from calls once name (suc number) count ≡ Some call
    → is_some (number_in calls call) ≡ true =
    among calls agree once name (suc number) count call in
    let step : first_of once name (name_in calls number) (first_from calls once name (suc number) count)
    ≡ Some call = h in
    at_number calls agree once name number call (first_from calls once name (suc number) count)
    (name_in calls number) refl later step

either : (calls : CallTable) (agree : Agree calls) (name call : List ℕ) (one : Option (List ℕ))
    → (one ≡ Some call → is_some (number_in calls call) ≡ true)
    → or_else one (first calls false name) ≡ Some call → is_some (number_in calls call) ≡ true
either calls agree name call None known h = among calls agree false name 0 (limit_of calls) call h
either calls agree name call (Some one) known h = known h

pub suggested : (calls : CallTable) (agree : Agree calls) (name call : List ℕ)
    → suggestion calls name ≡ Some call → is_some (number_in calls call) ≡ true
unfolding suggestion
suggested calls agree name call h =
    either calls agree name call (first calls true name)
    (among calls agree true name 0 (limit_of calls) call) h
