-- Which hint a refused file gets: this project's own, docs/SEMANTICS.md, "What a refused file seems to be".
use Rattle.std.specs.Prelude.{◌≡◌, ℕ, ◌<◌, List, [], ◌∷◌, true, Option, Some, None, slice_get, Ok}
use Rattle.base64.specs.Engines.{standard}
use Rattle.base64.specs.GeneralPurpose.{decode_of}
use Rattle.bpf_code.specs.declared.insn.Insn.{Insn}
use Rattle.bpf_verify.specs.Refused.{IsTextOf}
use Rattle.bpf_verify.specs.Sound.{IsSound}
use Rattle.fault_notes.specs.Starts.{begins_object}
use Rattle.wrong_files.specs.Documents.{are_documents}
use Rattle.wrong_files.specs.Texts.{begins_with_mark, without_space}
use Rattle.wrong_files.specs.Trees.{is_config, is_manifest, is_profile, is_script}
use Rattle.wrong_files.specs.declared.hint.Hint.{Hint}
use Rattle.wrong_files.specs.declared.hint.Hint.TheVariants as hint
use Rattle.wrong_files.specs.declared.hint.Wanted.{Wanted}
use Rattle.wrong_files.specs.declared.hint.Wanted.TheVariants as wanted

-- the bytes spell sound code
abbrev pub IsFilter : List ℕ → Type 0
IsFilter bytes = (code : List Insn) × IsTextOf bytes code × IsSound code

-- RFC 4648, section 4: white space aside, the Base64 of a filter
abbrev pub IsBase64 : List ℕ → Type 0
IsBase64 bytes = (code : List ℕ) × (decode_of standard (without_space bytes) ≡ Ok code) × IsFilter code

-- the bytes are what the hint says
abbrev pub Suits : List ℕ → Hint → Type 0
Suits bytes hint.ByteOrderMark = begins_with_mark bytes ≡ true
Suits bytes hint.Filter = IsFilter bytes
Suits bytes hint.Config = is_config bytes ≡ true
Suits bytes hint.Documents = are_documents bytes ≡ true
Suits bytes hint.Manifest = is_manifest bytes ≡ true
Suits bytes hint.Profile = is_profile bytes ≡ true
Suits bytes hint.Script = is_script bytes ≡ true
Suits bytes hint.Uncompiled = begins_object bytes ≡ true
Suits bytes hint.Base64 = IsBase64 bytes

-- the hints that are tried in the place of a profile or a template, in their order
abbrev pub profile_hints : List Hint
profile_hints = hint.ByteOrderMark ∷ hint.Filter ∷ hint.Config ∷ hint.Documents ∷ hint.Manifest ∷ hint.Script
    ∷ []

-- the hints that are tried where this text was wanted, in their order
abbrev pub hints_for : Wanted → List Hint
hints_for wanted.Profile = profile_hints
hints_for wanted.Template = profile_hints
hints_for wanted.Manifest =
    hint.ByteOrderMark ∷ hint.Filter ∷ hint.Documents ∷ hint.Profile ∷ hint.Script ∷ []
hints_for wanted.Script =
    hint.ByteOrderMark ∷ hint.Filter ∷ hint.Documents ∷ hint.Profile ∷ hint.Manifest ∷ []

-- the hints that are tried in the place of a filter, in their order
abbrev pub filter_hints : List Hint
filter_hints = hint.Uncompiled ∷ hint.Base64 ∷ []

-- the hint is one of these, it suits, and none before it does
pub record IsFirstThatSuits (bytes : List ℕ) (hints : List Hint) (found : Hint) : Type 0 where
  pub at : ℕ
  pub stands : slice_get hints at ≡ Some found
  pub suits : Suits bytes found
  pub earlier : (before : ℕ) (other : Hint) → before < at → slice_get hints before ≡ Some other
      → ¬ Suits bytes other

-- the first of the hints that suits the bytes, or none if none does
abbrev pub IsHint : List ℕ → List Hint → Option Hint → Type 0
IsHint bytes hints (Some found) = IsFirstThatSuits bytes hints found
IsHint bytes hints None = (at : ℕ) (other : Hint) → slice_get hints at ≡ Some other → ¬ Suits bytes other
