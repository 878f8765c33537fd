-- What a container is made from, this project's own: docs/SEMANTICS.md, "The runtime".
use Rattle.std.specs.Prelude.{◌≡◌, ◌⊎◌, ℕ, List, [], ◌∷◌, ◌++◌, option_to_list, Option, Some, None}
use Rattle.std.specs.Prelude.{Result, Ok, Err}
use Rattle.bpf_code.specs.declared.insn.Insn.{Insn}
use Rattle.verdict.specs.Stack.{AllSound}
use Rattle.node_io.specs.declared.faults.FileFault.{FileFault}
use Rattle.node_io.specs.declared.faults.FileFault.TheVariants as fault
use Rattle.manifest.specs.declared.profiles.SeccompProfile.{SeccompProfile}
use Rattle.manifest.specs.declared.profiles.SeccompProfile.TheVariants.{RuntimeDefault, Localhost, Unconfined}
use Rattle.oci_profile.specs.declared.profile.Profile.{Profile}
use Rattle.oci_profile.specs.RuntimeDefault.{runtime_default}
use Rattle.script.specs.declared.scripts.Step.{Step}
use Rattle.cri_msgs.specs.declared.keys.ContainerMetadata.{ContainerMetadata}
use Rattle.cri_msgs.specs.declared.refusals.Refusal.{Refusal}
use Rattle.cri_msgs.specs.declared.refusals.Refusal.TheVariants.{Internal, Memory}
use Rattle.runtime_cell.specs.declared.label.Label.{Label}
use Rattle.runtime_cell.specs.declared.cell.State.TheVariants.{Created}
use Rattle.runtime_cell.specs.Cell.{Cell, FollowsScript, GivesMeaning, Making, fresh}
use Rattle.creation.specs.declared.files.FileAnswers.{FileAnswers}
use Rattle.creation.specs.Made.{FileText, IsProfileOf, IsScriptOf, LacksIn, LacksScript}

abbrev pub refusal_of : FileFault → Refusal
refusal_of fault.NotFound = Internal
refusal_of fault.TooLarge = Internal
refusal_of fault.Failed = Internal
refusal_of fault.Memory = Memory

-- the text of a required file; a missing result counts as a failed read
abbrev pub text_in : Option (Result FileText FileFault) → Result FileText Refusal
text_in None = Err Internal
text_in (Some (Err f)) = Err (refusal_of f)
text_in (Some (Ok text)) = Ok text

abbrev pub IsScriptIn : Result FileText Refusal → List Step → Type 0
IsScriptIn (Err refusal) script = ⊥
IsScriptIn (Ok text) script = IsScriptOf text script

abbrev pub IsProfileIn : Result FileText Refusal → Profile → Type 0
IsProfileIn (Err refusal) profile = ⊥
IsProfileIn (Ok text) profile = IsProfileOf text profile

-- the profile of a container's own, if it has one
abbrev pub IsProfileFor : SeccompProfile → Result FileText Refusal → Option Profile → Type 0
IsProfileFor Unconfined file profile = profile ≡ None
IsProfileFor RuntimeDefault file profile = profile ≡ Some runtime_default
IsProfileFor (Localhost path) file None = ⊥
IsProfileFor (Localhost path) file (Some profile) = IsProfileIn file profile

abbrev pub LacksProfile : SeccompProfile → Result FileText Refusal → Refusal → Type 0
LacksProfile Unconfined file refusal = ⊥
LacksProfile RuntimeDefault file refusal = ⊥
LacksProfile (Localhost path) file refusal = LacksIn file refusal

-- the filters of the start: the node's own, then that of the profile
abbrev pub HasFilters : List (List Insn) → Option Profile → List (List Insn) → Type 0
HasFilters older None stack = stack ≡ older
HasFilters older (Some profile) stack = (code : List Insn) × (stack ≡ older ++ code ∷ [])
    × GivesMeaning code profile

abbrev pub path_of : SeccompProfile → Option (List ℕ)
path_of RuntimeDefault = None
path_of (Localhost path) = Some path
path_of Unconfined = None

abbrev pub choice_by : Option (List ℕ) → Option Profile → SeccompProfile
choice_by (Some path) profile = Localhost path
choice_by None (Some profile) = RuntimeDefault
choice_by None None = Unconfined

-- the requested profile
abbrev pub choice_of : Making → SeccompProfile
choice_of making = choice_by making.label.path making.profile

abbrev pub label_for : ℕ → ContainerMetadata → List ℕ → SeccompProfile → Label
label_for id container image choice = record {
  id = id;
  name = container.name;
  attempt = container.attempt;
  image = image;
  path = path_of choice;
}

-- what a cell is made from
pub record IsMadeFrom (baseline : Option (List Insn)) (id : ℕ) (container : ContainerMetadata)
    (image : List ℕ) (choice : SeccompProfile)
    (files : FileAnswers) (making : Making) : Type 0 where
  pub label : making.label ≡ label_for id container image choice
  pub script : IsScriptIn (text_in files.script) making.script
  pub profile : IsProfileFor choice (text_in files.profile) making.profile
  pub filters : HasFilters (option_to_list baseline) making.profile making.stack

-- a cell that was not started, made from these, which follows its script
pub record IsMade (baseline : Option (List Insn)) (id : ℕ) (container : ContainerMetadata) (image : List ℕ)
    (choice : SeccompProfile)
    (files : FileAnswers) (cell : Cell) : Type 0 where
  pub from : IsMadeFrom baseline id container image choice files cell.making
  pub fresh : cell ≡ fresh cell.making Created
  pub follows : FollowsScript cell
  pub sound : AllSound cell.making.stack

-- a cell of these parts
pub record IsCellOf (older : List (List Insn)) (script : List Step) (profile : Option Profile) (label : Label)
    (cell : Cell) : Type 0 where
  pub has_label : cell.making.label ≡ label
  pub has_script : cell.making.script ≡ script
  pub has_profile : cell.making.profile ≡ profile
  pub has_filters : HasFilters older profile cell.making.stack
  pub fresh : cell ≡ fresh cell.making Created
  pub follows : FollowsScript cell
  pub sound : AllSound cell.making.stack

-- why no cell is made: the script's file comes first
abbrev pub Lacks : SeccompProfile → FileAnswers → Refusal → Type 0
Lacks choice files refusal = LacksScript (text_in files.script) refusal
    ⊎ ((script : List Step) × IsScriptIn (text_in files.script) script
    × LacksProfile choice (text_in files.profile) refusal)

-- the script's file was read
abbrev pub WasRead : FileAnswers → Type 0
WasRead files = (text : FileText) × (text_in files.script ≡ Ok text)
