-- Which template a text is, for given settings, or its first fault, in the order of docs/SEMANTICS.md,
-- "Templates": that order is this project's own. Fields that no template has are ignored.
use Rattle.std.specs.Prelude.{ℕ, ◌==◌, ◌&&◌, not, List, [], ◌∷◌, length, codes, filter_map, find}
use Rattle.std.specs.Prelude.{if◌then◌else◌, nat_lt, Bool, true, false, ⊤, Option, Some, None, unwrap_or}
use Rattle.std.specs.Prelude.{Result, Ok, Err}
use Rattle.std.specs.Str.{bytes_eq}
use Rattle.serde_json.specs.Data.{Data}
use Rattle.json_tree.specs.Tree.{list, object, text, text_list, whole}
use Rattle.json_tree.specs.Reading.{◌>>=◌, ◌>>◌, as_fault, document as document_of, if_there, in_order_after}
use Rattle.json_tree.specs.Reading.{or_else, refuse_if}
use Rattle.json_place.specs.Parts.{Item, Member}
use Rattle.json_place.specs.Fields.{GivesAt, required, optional, optional_each}
use Rattle.json_place.specs.declared.fields.FieldFaultAt.{FieldFaultAt}
use Rattle.oci_profile.specs.declared.decision.Decision.{Decision}
use Rattle.oci_profile.specs.declared.faults.ProfileFault.TheVariants.{EmptyNames, Memory, Missing, NotObject}
use Rattle.oci_profile.specs.declared.faults.ProfileFault.TheVariants.{TooLarge, WrongType}
use Rattle.oci_profile.specs.declared.reader.TheConstants.{MAX_PROFILE_BYTES}
use Rattle.oci_profile.specs.Reading as of_profile
use Rattle.profile_text.specs.declared.named.NamedEntry.{NamedEntry}
use Rattle.profile_template.specs.declared.faults.TemplateFault.TheVariants.{Profile, Both, UnknownErrno}
use Rattle.profile_template.specs.declared.faults.TemplateFault.TheVariants.{BadKernel}
use Rattle.profile_template.specs.declared.placed.TemplateFaultAt.{TemplateFaultAt}
use Rattle.profile_template.specs.declared.settings.Settings.{Settings}
use Rattle.profile_template.specs.declared.template.Template.{Template}
use Rattle.profile_template.specs.declared.version.Version.{Version}
use Rattle.profile_template.specs.Architectures.{seccomp_arch}
use Rattle.action.specs.Errnos.{errno_number}
use Rattle.profile_template.specs.Faults.{at, fault_at, fault_here, fault_of_field, fault_of_profile}
use Rattle.profile_template.specs.Faults.{fault_of_text, under}
use Rattle.profile_template.specs.Settings.{is_excluded, is_included}
use Rattle.profile_template.specs.Version.{version_of}

abbrev pub here : {A : Type 0} → Result A FieldFaultAt → Result A TemplateFaultAt
here r = as_fault fault_of_field r

-- a call returns this reading, or memory ran out
abbrev pub Reads : {X Y : Type 0} → (X → Y) → Result X TemplateFaultAt → Result Y TemplateFaultAt → Type 0
Reads view result reading = GivesAt (λ found. found.fault) (Profile Memory) view result reading

-- the texts of an optional list
unfoldable pub items_of : List ℕ → Data → Result (List Data) TemplateFaultAt
items_of key tree = do
  found ← here (optional_each text text_list key tree)
  Ok (unwrap_or found [])

-- podman has an errno's name, beside its number; an empty name is none
abbrev pub numbered : List ℕ → List ℕ → Result (Option ℕ) TemplateFaultAt
numbered key name = if length name == 0 then Ok None
    else (or_else (fault_at key UnknownErrno) (errno_number name) >>= λ number. Ok (Some number))

abbrev pub numbered_if : List ℕ → Option (List ℕ) → Result (Option ℕ) TemplateFaultAt
numbered_if key None = Ok None
numbered_if key (Some name) = numbered key name

unfoldable pub named_errno_of : List ℕ → Data → Result (Option ℕ) TemplateFaultAt
named_errno_of key tree = do
  found ← here (optional text key tree)
  numbered_if key found

-- the named errno, else the one given as a number
abbrev pub chosen_errno : List ℕ → List ℕ → Decision → Option ℕ → Option ℕ → Result Decision TemplateFaultAt
chosen_errno errno_ret errno decision given (Some number) = at errno (of_profile.with_errno decision number)
chosen_errno errno_ret errno decision given None = at errno_ret (of_profile.with_given decision given)

unfoldable pub decision_of : List ℕ → List ℕ → List ℕ → Data → Result Decision TemplateFaultAt
decision_of action errno_ret errno tree = do
  name ← here (required text action tree)
  decision ← at action (of_profile.action_of name)
  given ← here (optional whole errno_ret tree)
  named ← named_errno_of errno tree
  chosen_errno errno_ret errno decision given named

-- an empty `name` is none
abbrev pub unless_empty : Option (List ℕ) → Option (List ℕ)
unless_empty None = None
unless_empty (Some name) = if length name == 0 then None else Some name

abbrev pub chosen_names : Option (List ℕ) → Option (List Data) → Result (List (List ℕ)) TemplateFaultAt
chosen_names None None = Err (fault_at (codes "names") (Profile Missing))
chosen_names None (Some names) = if length names == 0 then Err (fault_at (codes "names") (Profile EmptyNames))
    else Ok (filter_map text names)
chosen_names (Some name) names = if length (unwrap_or names []) == 0 then Ok (name ∷ [])
    else Err (fault_at (codes "name") Both)

-- the names of an entry: its `names`, or its one `name`
unfoldable pub names_of : Data → Result (List (List ℕ)) TemplateFaultAt
names_of tree = do
  name ← here (optional text (codes "name") tree)
  names ← here (optional_each text text_list (codes "names") tree)
  chosen_names (unless_empty name) names

abbrev pub version_at : List ℕ → List ℕ → Result Version TemplateFaultAt
version_at key word = or_else (fault_at key BadKernel) (version_of word)

unfoldable pub kernel_of : Data → Result (Option Version) TemplateFaultAt
kernel_of tree = do
  found ← here (optional text (codes "minKernel") tree)
  if_there (version_at (codes "minKernel")) found

unfoldable pub included_of : Settings → Data → Result Bool TemplateFaultAt
included_of settings tree = do
  arches ← items_of (codes "arches") tree
  caps ← items_of (codes "caps") tree
  least ← kernel_of tree
  Ok (is_included settings arches caps least)

unfoldable pub excluded_of : Settings → Data → Result Bool TemplateFaultAt
excluded_of settings tree = do
  arches ← items_of (codes "arches") tree
  caps ← items_of (codes "caps") tree
  least ← kernel_of tree
  Ok (is_excluded settings arches caps least)

-- the answer for the conditions with this key, and the answer if there are none
abbrev pub said_of : List ℕ → Bool → (Data → Result Bool TemplateFaultAt) → Option Data
    → Result Bool TemplateFaultAt
said_of key otherwise said None = Ok otherwise
said_of key otherwise said (Some found) = under (Member key) (said found)

-- whether the settings meet an entry's conditions
unfoldable pub is_met_of : Settings → Data → Result Bool TemplateFaultAt
is_met_of settings tree = do
  includes ← here (optional object (codes "includes") tree)
  included ← said_of (codes "includes") true (included_of settings) includes
  excludes ← here (optional object (codes "excludes") tree)
  excluded ← said_of (codes "excludes") false (excluded_of settings) excludes
  Ok (included && not excluded)

-- an entry if its conditions are met; otherwise `None` in its place
abbrev pub entry_if : Bool → NamedEntry → Option NamedEntry
entry_if true entry = Some entry
entry_if false entry = None

unfoldable pub entry_of : Settings → Data → Result (Option NamedEntry) TemplateFaultAt
entry_of settings item = do
  tree ← or_else (fault_here (Profile WrongType)) (object item)
  names ← names_of tree
  decision ← decision_of (codes "action") (codes "errnoRet") (codes "errno") tree
  conds ← as_fault fault_of_profile (of_profile.conds_of tree)
  is_met ← is_met_of settings tree
  Ok (entry_if is_met (record { names = names; decision = decision; conds = conds }))

-- as the item after those that were read
abbrev pub entry_at : Settings → List (Option NamedEntry) → Data → Result (Option NamedEntry) TemplateFaultAt
entry_at settings done item = under (Item (length done)) (entry_of settings item)

-- an architecture of `archMap`, and those that go with it
unfoldable pub family_of : Data → Result (List (List ℕ)) TemplateFaultAt
family_of item = do
  tree ← or_else (fault_here (Profile WrongType)) (object item)
  own ← here (required text (codes "architecture") tree)
  others ← items_of (codes "subArchitectures") tree
  Ok (own ∷ filter_map text others)

abbrev pub family_at : List (List (List ℕ)) → Data → Result (List (List ℕ)) TemplateFaultAt
family_at done item = under (Item (length done)) (family_of item)

abbrev pub is_headed : List ℕ → List (List ℕ) → Bool
is_headed word [] = false
is_headed word (own ∷ others) = bytes_eq own word

abbrev pub is_family : Option (List ℕ) → List (List ℕ) → Bool
is_family None family = false
is_family (Some word) family = is_headed word family

-- the family of the architecture, else the list without conditions
abbrev pub chosen_family : Option (List ℕ) → List (List ℕ) → List (List (List ℕ)) → List (List ℕ)
chosen_family arch plain families = unwrap_or (find (is_family arch) families) plain

unfoldable pub architectures_of : Settings → Data → Result (List (List ℕ)) TemplateFaultAt
architectures_of settings tree = do
  plain ← items_of (codes "architectures") tree
  found ← here (optional list (codes "archMap") tree)
  refuse_if (nat_lt 0 (length plain) && nat_lt 0 (length (unwrap_or found [])))
      (fault_at (codes "archMap") Both)
  families ← under (Member (codes "archMap")) (in_order_after family_at [] (unwrap_or found []))
  Ok (chosen_family (seccomp_arch settings.arch.now) (filter_map text plain) families)

-- fields without effect must have the right type
unfoldable pub ignored_of : Data → Result ⊤ TemplateFaultAt
ignored_of tree = do
  here (optional_each text text_list (codes "flags") tree)
  here (optional text (codes "listenerPath") tree)
  here (optional text (codes "listenerMetadata") tree)
  Ok tt

unfoldable pub default_of : Data → Result Decision TemplateFaultAt
default_of tree = decision_of (codes "defaultAction") (codes "defaultErrnoRet") (codes "defaultErrno") tree

unfoldable pub entries_of : Settings → Data → Result (List (Option NamedEntry)) TemplateFaultAt
entries_of settings tree = do
  items ← here (optional list (codes "syscalls") tree)
  under (Member (codes "syscalls")) (in_order_after (entry_at settings) [] (unwrap_or items []))

unfoldable pub template_of : Settings → Data → Result Template TemplateFaultAt
template_of settings whole_tree = do
  tree ← or_else (fault_here (Profile NotObject)) (object whole_tree)
  default ← default_of tree
  architectures ← architectures_of settings tree
  ignored_of tree
  entries ← entries_of settings tree
  Ok (record { default = default; architectures = architectures; entries = entries })

unfoldable pub short_of : Settings → List ℕ → Result Template TemplateFaultAt
short_of settings bytes = do
  tree ← as_fault fault_of_text (document_of bytes)
  template_of settings tree

-- the template of a text
unfoldable pub reading_of : Settings → List ℕ → Result Template TemplateFaultAt
reading_of settings bytes = do
  refuse_if (nat_lt MAX_PROFILE_BYTES (length bytes)) (fault_here (Profile TooLarge))
  short_of settings bytes
