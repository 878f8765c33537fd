-- A profile that is read keeps the rules of its type.
use Rattle.std.proofs.Common.{◌≡◌, ℕ, ◌<◌, List, [], ◌∷◌, Option, Some, None, Ok, refl, sym, subst}
use Rattle.std.specs.Prelude.{filter_map}
use Rattle.std.specs.List.{cons_option}
use Rattle.std.proofs.lemmas.List.Elements.{All-nil, All-cons}
use Rattle.serde_json.specs.Data.{Data}
use Rattle.json_tree.specs.Tree.{text}
use Rattle.json_tree.specs.Reading.{in_order_after, Both}
use Rattle.json_tree.proofs.Items.{and_then_some}
use Rattle.sys_table.specs.SysTable.{number_in}
use Rattle.sys_table.specs.declared.calls.CallTable.{CallTable}
use Rattle.sys_table.specs.declared.table.TheConstants.{TABLE_LIMIT}
use Rattle.oci_profile.specs.declared.decision.Decision.{Decision}
use Rattle.oci_profile.specs.declared.profile.Entry.{Entry}
use Rattle.oci_profile.specs.Conditions.{AreNumbers}
use Rattle.oci_profile.specs.Entries.{IsFit, AreEntries}
use Rattle.oci_profile.specs.Profile.{number_named, IsEntry}
use Rattle.oci_profile.specs.Reading.{entry_at}
use Rattle.oci_profile.proofs.Found.{each_entry_found}

module _ (calls : CallTable) where
  -- the numbers of the calls are below the table's limit
  abbrev pub AreSmall : Type 0
  AreSmall = (name : List ℕ) (number : ℕ) → number_in calls name ≡ Some number → number < TABLE_LIMIT

  number_fits : AreSmall → (name : Data) (number : ℕ) → number_named calls name ≡ Some number → number < TABLE_LIMIT
  unfolding number_named
  number_fits small name number h =
      let bytes = and_then_some (number_in calls) (text name) number h in
      small bytes.0 number bytes.2

  cons_fits : (here : Option ℕ) (numbers : List ℕ) → ((number : ℕ) → here ≡ Some number → number < TABLE_LIMIT)
      → AreNumbers numbers → AreNumbers (cons_option here numbers)
  cons_fits None numbers one rest = rest
  cons_fits (Some number) numbers one rest =
      All-cons (λ nr. nr < TABLE_LIMIT) number numbers (one number refl) rest

  pub one_number_fits : AreSmall → (name : List ℕ) → AreNumbers (cons_option (number_in calls name) [])
  one_number_fits small name = cons_fits (number_in calls name) [] (small name) (All-nil (λ nr. nr < TABLE_LIMIT))

  pub numbers_fit : AreSmall → (names : List Data) → AreNumbers (filter_map (number_named calls) names)
  numbers_fit small [] = All-nil (λ nr. nr < TABLE_LIMIT)
  numbers_fit small (name ∷ names) = cons_fits (number_named calls name) (filter_map (number_named calls) names)
      (number_fits small name) (numbers_fit small names)

  entry_fits : AreSmall → (default : Decision) (item : Data) (entry : Entry) → IsEntry calls default item entry
      → IsFit entry
  entry_fits small default item entry is =
      record {
        numbers_fit = subst AreNumbers (sym is.numbers_are) (numbers_fit small is.names);
        conds_fit =
            is.conds_fit;
      }

  each_fits : AreSmall → (default : Decision) (items : List Data) (entries : List Entry)
      → Both (IsEntry calls default) items entries → AreEntries entries
  each_fits small default [] [] h = All-nil IsFit
  each_fits small default [] (entry ∷ entries) h = absurd h
  each_fits small default (item ∷ items) [] h = absurd h
  each_fits small default (item ∷ items) (entry ∷ entries) h =
      All-cons IsFit entry entries (entry_fits small default item entry h.0)
      (each_fits small default items entries h.1)

  pub entries_fit : AreSmall → (default : Decision) (items : List Data) (entries : List Entry)
      → in_order_after (entry_at calls default) [] items ≡ Ok entries → AreEntries entries
  entries_fit small default items entries h =
      each_fits small default items entries (each_entry_found calls default items entries h)
