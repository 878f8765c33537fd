-- Kinds that a tree of one kind is not, and which members are present.
use Rattle.std.proofs.Common.{◌≡◌, ℕ, List, true, false, is_some, Option, Some, None, refl}
use Rattle.serde_json.specs.Data.{Data, null, boolean, number, string, array, object as an_object}
use Rattle.serde_json.specs.Find.{get}
use Rattle.json_tree.specs.Tree.{has, list, member, object, text, value, whole, wholes, word}

pub value_same : (d x : Data) → value d ≡ Some x → d ≡ x
value_same null x h = absurd cc
value_same (boolean b) x h = cc
value_same (number n) x h = cc
value_same (string s) x h = cc
value_same (array ds) x h = cc
value_same (an_object ms) x h = cc

pub object_same : (d x : Data) → object d ≡ Some x → d ≡ x
object_same null x h = absurd cc
object_same (boolean b) x h = absurd cc
object_same (number n) x h = absurd cc
object_same (string s) x h = absurd cc
object_same (array ds) x h = absurd cc
object_same (an_object ms) x h = cc

pub whole_is_value : (d : Data) (n : ℕ) → whole d ≡ Some n → value d ≡ Some d
unfolding whole
whole_is_value null n h = absurd cc
whole_is_value (boolean b) n h = refl
whole_is_value (number m) n h = refl
whole_is_value (string s) n h = refl
whole_is_value (array ds) n h = refl
whole_is_value (an_object ms) n h = refl

pub word_is_value : (d : Data) (n : ℕ) → word d ≡ Some n → value d ≡ Some d
unfolding word whole
word_is_value null n h = absurd cc
word_is_value (boolean b) n h = refl
word_is_value (number m) n h = refl
word_is_value (string s) n h = refl
word_is_value (array ds) n h = refl
word_is_value (an_object ms) n h = refl

pub text_is_value : (d : Data) (t : List ℕ) → text d ≡ Some t → value d ≡ Some d
text_is_value null t h = absurd cc
text_is_value (boolean b) t h = refl
text_is_value (number n) t h = refl
text_is_value (string s) t h = refl
text_is_value (array ds) t h = refl
text_is_value (an_object ms) t h = refl

pub wholes_is_value : (d : Data) (ns : List ℕ) → wholes d ≡ Some ns → value d ≡ Some d
unfolding wholes list
wholes_is_value null ns h = absurd cc
wholes_is_value (boolean b) ns h = refl
wholes_is_value (number n) ns h = refl
wholes_is_value (string s) ns h = refl
wholes_is_value (array ds) ns h = refl
wholes_is_value (an_object ms) ns h = refl

pub list_is_value : (d : Data) (items : List Data) → list d ≡ Some items → value d ≡ Some d
unfolding list
list_is_value null items h = absurd cc
list_is_value (boolean b) items h = refl
list_is_value (number n) items h = refl
list_is_value (string s) items h = refl
list_is_value (array ds) items h = refl
list_is_value (an_object ms) items h = refl

pub word_no_text : (d : Data) (n : ℕ) → word d ≡ Some n → text d ≡ None
unfolding word whole
word_no_text null n h = refl
word_no_text (boolean b) n h = refl
word_no_text (number m) n h = refl
word_no_text (string s) n h = absurd cc
word_no_text (array ds) n h = refl
word_no_text (an_object ms) n h = refl

is_none : {A : Type 0} (o : Option A) → is_some o ≡ false → o ≡ None
is_none None h = refl
is_none (Some x) h = absurd cc

pub has_not : (key : List ℕ) (tree : Data) → has key tree ≡ false → member key tree ≡ None
unfolding has
has_not key tree h = is_none (member key tree) h

pub not_there : (key : List ℕ) (tree : Data) → member key tree ≡ None → has key tree ≡ false
unfolding has
not_there key tree h = rw h refl

pub is_there : (key : List ℕ) (tree found : Data) → get key tree ≡ Some found → value found ≡ Some found
    → has key tree ≡ true
unfolding has member
is_there key tree found is h = rw (is, h) refl
