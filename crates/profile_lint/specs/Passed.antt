-- The parts of a profile's text that decide nothing: OCI runtime-spec 1.1, config-linux, seccomp. This
-- project's own is that empty members and comments are not reported: docs/SEMANTICS.md, "What lint
-- reports".
use Rattle.std.specs.Prelude.{◌≡◌, ℕ, ◌==◌, Bool, false, not, ◌&&◌, ◌||◌, if◌then◌else◌, List, [], ◌∷◌, ◌++◌}
use Rattle.std.specs.Prelude.{length, codes, take, filter_map, flat_map, Option, Some, None, option_and_then}
use Rattle.std.specs.Prelude.{is_some, map, option_map, unwrap_or}
use Rattle.std.specs.List.{enumerate_from, list_any}
use Rattle.std.specs.Str.{bytes_eq}
use Rattle.std.specs.Char.{to_ascii_lowercase}
use Rattle.serde_json.specs.Data as json
use Rattle.serde_json.specs.Data.{Data, Members}
use Rattle.serde_json.specs.Find.{as_object}
use Rattle.json_tree.specs.Tree.{list, member, text, value}
use Rattle.oci_profile.specs.Profile.{number_named}
use Rattle.sys_table.specs.SysTable.{number_in}
use Rattle.sys_table.specs.declared.calls.CallTable.{CallTable}
use Rattle.profile_lint.specs.declared.passed.Holder.{Holder}
use Rattle.profile_lint.specs.declared.passed.Holder.TheVariants as of
use Rattle.profile_lint.specs.declared.passed.Passed as passed
use Rattle.profile_lint.specs.declared.passed.Passed.TheVariants as kind

-- a finding about the text, with texts as their bytes
pub data PassedData : Type 0 where
  Ignored : Holder → List ℕ → PassedData
  OtherArchitectures : PassedData
  UnknownArchitecture : ℕ → List ℕ → PassedData
  UnknownName : ℕ → ℕ → List ℕ → PassedData
  RepeatedName : ℕ → ℕ → List ℕ → PassedData

abbrev pub told : passed.Passed → PassedData
told (kind.Ignored holder key) = Ignored holder key.now
told kind.OtherArchitectures = OtherArchitectures
told (kind.UnknownArchitecture index name) = UnknownArchitecture index name.now
told (kind.UnknownName entry index name) = UnknownName entry index name.now
told (kind.RepeatedName entry index name) = RepeatedName entry index name.now

abbrev pub members_list : Members → List (List ℕ × Data)
members_list json.no_members = []
members_list (json.member key value ms) = (key, value) ∷ members_list ms

-- the members, if it is an object
abbrev pub members_of : Data → Option (List (List ℕ × Data))
members_of tree = option_map members_list (as_object tree)

abbrev pub is_empty : {A : Type 0} → Option (List A) → Bool
is_empty None = false
is_empty (Some xs) = length xs == 0

-- null, and an empty text, list or object
unfoldable pub says_nothing : Data → Bool
says_nothing tree = not (is_some (value tree)) || (is_empty (text tree)
    || (is_empty (list tree) || is_empty (members_of tree)))

abbrev pub is_one_of : List (List ℕ) → List ℕ → Bool
is_one_of names name = list_any (bytes_eq name) names

-- the members that decide something
abbrev pub deciding : Holder → List (List ℕ)
deciding of.Profile = codes "defaultAction" ∷ codes "defaultErrnoRet" ∷ codes "architectures"
    ∷ codes "syscalls" ∷ []
deciding (of.Entry entry) = codes "names" ∷ codes "action" ∷ codes "errnoRet" ∷ codes "args" ∷ []
deciding (of.Arg entry arg) = codes "index" ∷ codes "value" ∷ codes "valueTwo" ∷ codes "op" ∷ []

abbrev pub is_recased_as : List ℕ → List ℕ → Bool
is_recased_as key name = bytes_eq (map to_ascii_lowercase key) (map to_ascii_lowercase name)

-- whether the key is one of those in another case: Go's encoding/json reads it all the same, and so does runc
abbrev pub is_recased : Holder → List ℕ → Bool
is_recased holder key = list_any (is_recased_as key) (deciding holder)

-- members of a profile that engines read: OCI runtime-spec 1.1, config-linux, seccomp
abbrev pub is_for_engines : Holder → List ℕ → Bool
is_for_engines of.Profile key =
    is_one_of (codes "flags" ∷ codes "listenerPath" ∷ codes "listenerMetadata" ∷ []) key
is_for_engines (of.Entry entry) key = false
is_for_engines (of.Arg entry arg) key = false

unfoldable pub is_ignored : Holder → List ℕ → Data → Bool
is_ignored holder key value = not (says_nothing value)
    && not (bytes_eq key (codes "comment") || is_one_of (deciding holder) key)

abbrev pub ignored_at : Holder → List ℕ × Data → Option PassedData
ignored_at holder (key, value) = if is_ignored holder key value then Some (Ignored holder key) else None

-- the members that decide nothing
abbrev pub ignored_in : Holder → Data → List PassedData
ignored_in holder tree = filter_map (ignored_at holder) (unwrap_or (members_of tree) [])

-- the items of the list at this member
unfoldable pub items_in : List ℕ → Data → List Data
items_in key tree = unwrap_or (option_and_then list (member key tree)) []

abbrev pub is_text : List ℕ → Option (List ℕ) → Bool
is_text wanted None = false
is_text wanted (Some t) = bytes_eq t wanted

abbrev pub is_native : Data → Bool
is_native name = is_text (codes "SCMP_ARCH_X86_64") (text name)

-- whether there are some, and x86-64 is none of them
abbrev pub are_others : List Data → Bool
are_others names = not (length names == 0) && not (list_any is_native names)

abbrev pub others_in : Data → List PassedData
others_in tree = if are_others (items_in (codes "architectures") tree) then OtherArchitectures ∷ [] else []

-- the names of architectures: seccomp.h of libseccomp 2.6
unfoldable pub architectures : List (List ℕ)
architectures = codes "SCMP_ARCH_X86" ∷ codes "SCMP_ARCH_X86_64" ∷ codes "SCMP_ARCH_X32" ∷
    codes "SCMP_ARCH_ARM" ∷ codes "SCMP_ARCH_AARCH64" ∷ codes "SCMP_ARCH_LOONGARCH64" ∷
    codes "SCMP_ARCH_M68K" ∷ codes "SCMP_ARCH_MIPS" ∷ codes "SCMP_ARCH_MIPS64" ∷
    codes "SCMP_ARCH_MIPS64N32" ∷ codes "SCMP_ARCH_MIPSEL" ∷ codes "SCMP_ARCH_MIPSEL64" ∷
    codes "SCMP_ARCH_MIPSEL64N32" ∷ codes "SCMP_ARCH_PPC" ∷ codes "SCMP_ARCH_PPC64" ∷
    codes "SCMP_ARCH_PPC64LE" ∷ codes "SCMP_ARCH_S390" ∷ codes "SCMP_ARCH_S390X" ∷
    codes "SCMP_ARCH_PARISC" ∷ codes "SCMP_ARCH_PARISC64" ∷ codes "SCMP_ARCH_RISCV64" ∷
    codes "SCMP_ARCH_SH" ∷ codes "SCMP_ARCH_SHEB" ∷ []

abbrev pub arch_named : ℕ → Option (List ℕ) → Option PassedData
arch_named index None = None
arch_named index (Some name) = if is_one_of architectures name then None else Some (UnknownArchitecture index name)

abbrev pub arch_at : ℕ × Data → Option PassedData
arch_at (index, item) = arch_named index (text item)

abbrev pub archs_in : List Data → List PassedData
archs_in items = filter_map arch_at (enumerate_from 0 items)

abbrev pub is_number : ℕ → Option ℕ → Bool
is_number number None = false
is_number number (Some n) = n == number

-- whether one of the names is that of the call with this number
abbrev pub is_named_in : CallTable → List Data → ℕ → Bool
is_named_in calls names number = list_any (λ name. is_number number (number_named calls name)) names

-- the numbers are those of the names, whatever their order
abbrev pub AreSeen : CallTable → List Data → List ℕ → Type 0
AreSeen calls names numbers = (number : ℕ)
    → list_any (λ n. n == number) numbers ≡ is_named_in calls names number

-- the finding about the entry's name at this index: its call is not known, or an earlier name has it
abbrev pub told_number : CallTable → ℕ → ℕ → List ℕ → Option ℕ → List Data → Option PassedData
told_number calls entry index name None before = Some (UnknownName entry index name)
told_number calls entry index name (Some number) before =
    if is_named_in calls before number then Some (RepeatedName entry index name) else None

abbrev pub told_text : CallTable → ℕ → ℕ → Option (List ℕ) → List Data → Option PassedData
told_text calls entry index None before = None
told_text calls entry index (Some name) before =
    told_number calls entry index name (number_in calls name) before

abbrev pub name_at : CallTable → ℕ → List Data → ℕ × Data → Option PassedData
name_at calls entry names (index, name) = told_text calls entry index (text name) (take index names)

abbrev pub names_in : CallTable → ℕ → List Data → List PassedData
names_in calls entry names = filter_map (name_at calls entry names) (enumerate_from 0 names)

abbrev pub arg_at : ℕ → ℕ × Data → List PassedData
arg_at entry (index, item) = ignored_in (of.Arg entry index) item

abbrev pub args_in : ℕ → List Data → List PassedData
args_in entry items = flat_map (arg_at entry) (enumerate_from 0 items)

abbrev pub entry_at : CallTable → ℕ × Data → List PassedData
entry_at calls (index, item) = ignored_in (of.Entry index) item
    ++ (names_in calls index (items_in (codes "names") item) ++ args_in index (items_in (codes "args") item))

abbrev pub entries_in : CallTable → List Data → List PassedData
entries_in calls items = flat_map (entry_at calls) (enumerate_from 0 items)

-- all findings about a profile's tree, if these are the known calls
abbrev pub all_passed_in : CallTable → Data → List PassedData
all_passed_in calls tree = ignored_in of.Profile tree
    ++ (others_in tree ++ (archs_in (items_in (codes "architectures") tree)
    ++ entries_in calls (items_in (codes "syscalls") tree)))
