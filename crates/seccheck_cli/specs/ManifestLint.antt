-- What `lint` prints about the manifest of a pod, and its status: this project's own, docs/SEMANTICS.md,
-- "Manifests".
use Rattle.std.specs.Prelude.{ℕ, Bool, if◌then◌else◌, List, [], ◌++◌, codes, flat_map}
use Rattle.std.specs.List.{list_any}
use Rattle.serde_json.specs.Data.{string}
use Rattle.serde_json.specs.Written.{compact_text}
use Rattle.manifest_advice.specs.Advice.{AdviceData}
use Rattle.manifest_advice.specs.Advice.AdviceData.{OtherCase, OldAnnotation}
use Rattle.manifest_advice.specs.Words.{advice_place, advice_words}
use Rattle.profile_lint.specs.Choice.{is_allowed, is_bad_kind}
use Rattle.profile_lint.specs.Kinds.{kind_text}
use Rattle.profile_lint.specs.Objects.{object_text}
use Rattle.profile_lint.specs.Text.{graded, line_of, text_of}
use Rattle.profile_lint.specs.declared.kinds.FindingKind.{FindingKind}
use Rattle.profile_lint.specs.declared.kinds.FindingKind.TheVariants as kind
use Rattle.seccheck_stops.specs.declared.form.Form.{Form}
use Rattle.seccheck_stops.specs.declared.form.Form.TheVariants as form

abbrev pub kind_of_advice : AdviceData → FindingKind
kind_of_advice (OtherCase holder key name) = kind.OtherCase
kind_of_advice (OldAnnotation key) = kind.OldAnnotation

-- the key that has no effect
abbrev pub key_of : AdviceData → List ℕ
key_of (OtherCase holder key name) = key
key_of (OldAnnotation key) = key

abbrev pub field_member : List ℕ → List ℕ
field_member key = codes ",\"field\":" ++ compact_text (string key)

-- a finding with the severity of its kind
abbrev pub finding_line : FindingKind → List ℕ → List ℕ → List ℕ
finding_line kind place words = graded kind (text_of place (kind_text kind) words)

abbrev pub text_line : AdviceData → List ℕ
text_line told = finding_line (kind_of_advice told) (advice_place told) (advice_words told)

unfoldable pub advice_object : AdviceData → List ℕ
advice_object told = object_text (advice_place told) (kind_of_advice told) (field_member (key_of told))
    (advice_words told)

abbrev pub object_line : AdviceData → List ℕ
object_line told = line_of (advice_object told)

abbrev pub shown : Form → AdviceData → List ℕ
shown form.Text told = text_line told
shown form.Json told = object_line told

-- a line for each piece of advice, unless its kind is allowed
abbrev pub advice_line : Form → List FindingKind → AdviceData → List ℕ
advice_line form allowed told = if is_allowed allowed (kind_of_advice told) then [] else shown form told

abbrev pub advice_lines : Form → List FindingKind → List AdviceData → List ℕ
advice_lines form allowed tolds = flat_map (advice_line form allowed) tolds

abbrev pub is_manifest_bad : List FindingKind → List AdviceData → Bool
is_manifest_bad allowed tolds = list_any (λ t. is_bad_kind allowed (kind_of_advice t)) tolds

abbrev pub manifest_status : List FindingKind → List AdviceData → ℕ
manifest_status allowed tolds = if is_manifest_bad allowed tolds then 1 else 0
