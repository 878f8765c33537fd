-- The written tree of a profile's part is a tree of that part.
use Rattle.std.proofs.Common.{◌≡◌, inl, ℕ, List, [], ◌∷◌, map, codes, cond, eqb, Bool, true, false, Option}
use Rattle.std.proofs.Common.{Some, None, unwrap_or, refl, ap}
use Rattle.std.proofs.lemmas.Bool.{eqb-true}
use Rattle.std.specs.Prelude.{option_map}
use Rattle.serde_json.specs.Data.{Data, string, array, object, no_members, put}
use Rattle.serde_json.specs.Find.{get}
use Rattle.serde_json.specs.View.{items_of}
use Rattle.serde_json.proofs.OnLiterals.{serde_json_on_literals}
use Rattle.json_tree.specs.Tree.{each, items_list, list, member, text, text_list, whole}
use Rattle.json_tree.specs.Reading.{Both, HasField, MayHaveField}
use Rattle.oci_profile.specs.declared.conditions.Cond.{Cond}
use Rattle.oci_profile.specs.declared.conditions.Op.{Op}
use Rattle.oci_profile.specs.declared.conditions.Op.TheVariants.{NotEqual, Less, LessOrEqual, Equal}
use Rattle.oci_profile.specs.declared.conditions.Op.TheVariants.{GreaterOrEqual, Greater, MaskedEqual}
use Rattle.oci_profile.specs.declared.decision.Decision.{Decision}
use Rattle.oci_profile.specs.declared.decision.Decision.TheVariants.{KillProcess, KillThread, Trap, Errno}
use Rattle.oci_profile.specs.declared.decision.Decision.TheVariants.{Trace, Allow, Log}
use Rattle.oci_profile.specs.Profile.{HasDecision, IsCond, IsErrnoOf, IsNameOf, IsOpName}
use Rattle.profile_text.specs.Fits.{FitsDecision}
use Rattle.profile_text.specs.Written.{action_name, cond_tree, errno_of, op_name, two_of, whole_number}
use Rattle.profile_text.specs.Written.{with_whole}

pub has_text : (key : List ℕ) (tree : Data) (x : List ℕ) → get key tree ≡ Some (string x)
    → HasField text key tree x
has_text key tree x is = (string x, is, refl)

has_whole : (key : List ℕ) (tree : Data) (n : ℕ) → get key tree ≡ Some (whole_number n)
    → HasField whole key tree n
unfolding whole
has_whole key tree n is = (whole_number n, is, refl)

op_named : (op : Op) → IsOpName op (op_name op)
op_named NotEqual = refl
op_named Less = refl
op_named LessOrEqual = refl
op_named Equal = refl
op_named GreaterOrEqual = refl
op_named Greater = refl
op_named MaskedEqual = refl

-- a tree that has the optional number at this key, or not
pub may_have_whole : (key : List ℕ) (tree : Data) (given : Option ℕ)
    → get key tree ≡ option_map whole_number given → MayHaveField whole key tree given
unfolding whole member
may_have_whole key tree None is = rw is refl
may_have_whole key tree (Some n) is = (whole_number n, rw is refl, refl)

abbrev cond_with : ℕ → Op → ℕ → Option ℕ → Data
cond_with index op value given = object
    (with_whole (codes "valueTwo") given (put (codes "op") (string (op_name op))
    (put (codes "value") (whole_number value) (put (codes "index") (whole_number index) no_members))))

pub record HasCondFields (index : ℕ) (op : Op) (value : ℕ) (given : Option ℕ) (tree : Data) : Type 0 where
  pub index_there : get (codes "index") tree ≡ Some (whole_number index)
  pub value_there : get (codes "value") tree ≡ Some (whole_number value)
  pub two_there : get (codes "valueTwo") tree ≡ option_map whole_number given
  pub op_there : get (codes "op") tree ≡ Some (string (op_name op))

cond_fields : (index : ℕ) (op : Op) (value : ℕ) (given : Option ℕ)
    → HasCondFields index op value given (cond_with index op value given)
unfolding serde_json_on_literals
cond_fields index op value None = record {
  index_there = refl;
  value_there = refl;
  two_there = refl;
  op_there = refl;
}
cond_fields index op value (Some two) =
    record { index_there = refl; value_there = refl; two_there = refl; op_there = refl }

two_by : (none : Bool) (two : ℕ) → (none ≡ true → two ≡ 0) → two ≡ unwrap_or (cond none None (Some two)) 0
two_by true two zeroes = zeroes refl
two_by false two zeroes = refl

two_is : (two : ℕ) → two ≡ unwrap_or (two_of two) 0
two_is two = two_by (eqb two 0) two (eqb-true two 0)

pub cond_is : (c : Cond) → IsCond (cond_tree c) c
cond_is c =
    let fields = cond_fields c.index c.op c.value (two_of c.value_two) in
    record {
      an_object = refl;
      index = has_whole (codes "index") (cond_tree c) c.index fields.index_there;
      value = has_whole (codes "value") (cond_tree c) c.value fields.value_there;
      given = two_of c.value_two;
      two = may_have_whole (codes "valueTwo") (cond_tree c) (two_of c.value_two) fields.two_there;
      two_is = two_is c.value_two;
      name = op_name c.op;
      op = has_text (codes "op") (cond_tree c) (op_name c.op) fields.op_there;
      named = op_named c.op;
    }

pub conds_are : (conds : List Cond) → Both IsCond (map cond_tree conds) conds
conds_are [] = tt
conds_are (c ∷ cs) = (cond_is c, conds_are cs)

action_named : (decision : Decision) → IsNameOf decision (action_name decision)
action_named KillProcess = refl
action_named KillThread = inl refl
action_named Trap = refl
action_named (Errno errno) = refl
action_named (Trace message) = refl
action_named Allow = refl
action_named Log = refl

errno_is : (decision : Decision) → FitsDecision decision → IsErrnoOf decision (errno_of decision)
errno_is KillProcess fits = refl
errno_is KillThread fits = refl
errno_is Trap fits = refl
errno_is (Errno errno) fits = (refl, fits)
errno_is (Trace message) fits = (refl, fits)
errno_is Allow fits = refl
errno_is Log fits = refl

pub decides : (action_key errno_key : List ℕ) (tree : Data) (decision : Decision) → FitsDecision decision
    → get action_key tree ≡ Some (string (action_name decision))
    → get errno_key tree ≡ option_map whole_number (errno_of decision)
    → HasDecision action_key errno_key tree decision
decides action_key errno_key tree decision fits action errno = record {
  name = action_name decision;
  there = has_text action_key tree (action_name decision) action;
  named = action_named decision;
  given = errno_of decision;
  errno = may_have_whole errno_key tree (errno_of decision) errno;
  errno_is = errno_is decision fits;
}

-- a list that was written
pub items_back : (ds : List Data) → items_list (items_of ds) ≡ ds
items_back [] = refl
items_back (d ∷ ds) = ap (λ es. d ∷ es) (items_back ds)

pub list_back : (ds : List Data) → list (array (items_of ds)) ≡ Some ds
unfolding list
list_back ds = ap Some (items_back ds)

each_text : (names : List (List ℕ)) → each text (map string names) ≡ Some names
each_text [] = refl
each_text (name ∷ names) = rw (each_text names) refl

pub texts_back : (names : List (List ℕ)) → text_list (array (items_of (map string names)))
    ≡ Some (map string names)
unfolding text_list
texts_back names = rw (list_back (map string names), each_text names) refl
