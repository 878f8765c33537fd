-- What is said of a place, from what was read and what is shown.
use Rattle.std.proofs.Common.{◌≡◌, ℕ, List, Option, Some, None, option_and_then, Result, Ok, Err, refl, sym}
use Rattle.std.proofs.Common.{subst}
use Rattle.std.specs.Prelude.{◌≢◌, IfOk, IfSome, string_bytes}
use Rattle.std.specs.declared.string.String.{String}
use Rattle.serde_json.specs.Data.{Data}
use Rattle.json_tree.specs.declared.faults.TextFault.TheVariants.{NotJson, Memory}
use Rattle.json_tree.specs.Tree.{tree_of}
use Rattle.json_tree.specs.Reading.{document, or_else}
use Rattle.json_tree.proofs.Fields.{or_else_ok}
use Rattle.json_place.specs.Parts.{Part}
use Rattle.json_place.specs.Shown.{stands_at}
use Rattle.json_place.specs.declared.shown.Shown as standing
use Rattle.fault_notes.specs.Notes.{IsShownAt, IsShownOf, Says, place_note}
use Rattle.fault_notes.specs.declared.named.Named.{Named}

pub says : {Y E : Type 0} (told : Result (String Y) E) (place : List Part) (fault : Named)
    (shown : Option standing.Shown) (wanted : List ℕ)
    → IfOk told (λ text. IfSome (place_note place fault shown wanted) (λ known. string_bytes text ≡ known))
    → IfOk told (λ text. Says place fault shown (string_bytes text))
says (Ok text) place fault shown wanted h = (wanted, h)
says (Err e) place fault shown wanted h = tt

shows : {Y E : Type 0} (told : Result (String Y) E) (bytes : List ℕ) (place : List Part)
    (shown : Option standing.Shown) (Are : Option standing.Shown → List ℕ → Type 0)
    → IsShownOf (option_and_then (stands_at place) (tree_of bytes)) shown
    → IfOk told (λ text. Are shown (string_bytes text))
    → IfOk told (λ text. IsShownAt bytes place Are (string_bytes text))
shows (Ok text) bytes place shown Are is h = (shown, is, h)
shows (Err e) bytes place shown Are is h = tt

-- the value in the tree of the text
pub in_tree : {Y E : Type 0} (told : Result (String Y) E) (bytes : List ℕ) (place : List Part)
    (shown : Option standing.Shown) (tree : Data) (Are : Option standing.Shown → List ℕ → Type 0)
    → document bytes ≡ Ok tree → IsShownOf (stands_at place tree) shown
    → IfOk told (λ text. Are shown (string_bytes text))
    → IfOk told (λ text. IsShownAt bytes place Are (string_bytes text))
unfolding document
in_tree told bytes place shown tree Are read is h =
    let found : tree_of bytes ≡ Some tree = or_else_ok NotJson (tree_of bytes) tree read in
    shows told bytes place shown Are (subst (λ t. IsShownOf (option_and_then (stands_at place) t) shown)
    (sym found) is) h

no_tree : (o : Option Data) → or_else NotJson o ≡ Err NotJson → o ≡ None
no_tree None h = refl
no_tree (Some tree) h = absurd cc

-- a text that is not JSON has no values
pub in_none : {Y E : Type 0} (told : Result (String Y) E) (bytes : List ℕ) (place : List Part)
    (Are : Option standing.Shown → List ℕ → Type 0)
    → (NotJson ≢ Memory → document bytes ≡ Err NotJson)
    → IfOk told (λ text. Are None (string_bytes text))
    → IfOk told (λ text. IsShownAt bytes place Are (string_bytes text))
unfolding document
in_none told bytes place Are read h =
    let none : tree_of bytes ≡ None = no_tree (tree_of bytes) (read (λ same. absurd cc)) in
    shows told bytes place None Are (subst (λ t. IsShownOf (option_and_then (stands_at place) t) None)
    (sym none) refl) h
