-- The settings of a template that the words of `resolve` write, this project's own: docs/SEMANTICS.md,
-- "Programs". A kernel's release is what uname(2) has and `uname -r` prints.
use Rattle.std.specs.Borrow.{Bor}
use Rattle.std.specs.Prelude.{◌≡◌, ℕ, suc, ◌+◌, ⊤, if◌then◌else◌, List, [], ◌∷◌, codes, take, drop, Option}
use Rattle.std.specs.Prelude.{Some, None, option_and_then, Result, Ok, Err}
use Rattle.json_tree.specs.Reading.{◌>>=◌, in_order_after, or_else}
use Rattle.profile_template.specs.Version.{dot_at, is_digit, version_of}
use Rattle.profile_template.specs.declared.settings.Settings.{Settings}
use Rattle.profile_template.specs.declared.version.Version.{Version}
use Rattle.seccheck_words.specs.Architectures.{template_arch}
use Rattle.seccheck_words.specs.Capabilities.{cap_named}
use Rattle.seccheck_stops.specs.declared.bad_words.WordFault.{WordFault}
use Rattle.seccheck_stops.specs.declared.bad_words.WordFault.TheVariants as bad
use Rattle.seccheck_stops.specs.declared.stop.Stop.{Stop}
use Rattle.seccheck_stops.specs.declared.stop.Stop.TheVariants as why

-- the whole name of the capability, or the word that names none
abbrev pub cap_of : List ℕ → Result (List ℕ) (List ℕ)
cap_of word = or_else word (cap_named word)

-- those of all words, or the first word that names none
unfoldable pub caps_of : List (List ℕ) → Result (List (List ℕ)) (List ℕ)
caps_of words = in_order_after (λ done word. cap_of word) [] words

-- the capabilities, or the refusal of that word; memory may be wanting in any case
abbrev pub TellsCaps : {X : Type 0} → (X → List (List ℕ)) → Result X Stop
    → Result (List (List ℕ)) (List ℕ) → Type 0
TellsCaps view (Ok caps) told = told ≡ Ok (view caps)
TellsCaps view (Err why.Memory) told = ⊤
TellsCaps view (Err (why.BadWord word bad.BadCap)) told = told ≡ Err word.now
TellsCaps view (Err stop) told = ⊥

-- a release begins with as many digits
abbrev pub digits_at : List ℕ → ℕ
digits_at [] = 0
digits_at (c ∷ cs) = if is_digit c then suc (digits_at cs) else 0

-- a release up to the end of the digits after the dot at this place
abbrev pub head_at : ℕ → List ℕ → List ℕ
head_at dot text = take (dot + 1 + digits_at (drop (dot + 1) text)) text

-- the version with which a release begins
abbrev pub release_of : List ℕ → Option Version
release_of text = option_and_then (λ dot. version_of (head_at dot text)) (dot_at text)

-- amd64 if no architecture is named
abbrev pub arch_of : Option (List ℕ) → Result (List ℕ) (List ℕ × WordFault)
arch_of None = Ok (codes "amd64")
arch_of (Some word) = or_else (word, bad.BadArch) (template_arch word)

-- no version if no kernel is named: the kernel is newer than any that a template asks for
abbrev pub kernel_of : Option (List ℕ) → Result (Option Version) (List ℕ × WordFault)
kernel_of None = Ok None
kernel_of (Some word) = or_else (word, bad.BadKernel) (release_of word) >>= λ version. Ok (Some version)

abbrev pub settings_of : Option (List ℕ) → Option (List ℕ)
    → Result (List ℕ × Option Version) (List ℕ × WordFault)
settings_of arch kernel = do
  name ← arch_of arch
  version ← kernel_of kernel
  Ok (name, version)

-- the word that is refused, as its bytes
abbrev pub told_word : {X Y : Type 0} → (X → Y) → Result X (Bor (List ℕ) × WordFault)
    → Result Y (List ℕ × WordFault)
told_word view (Ok x) = Ok (view x)
told_word view (Err refused) = Err (refused.0.now, refused.1)

abbrev pub told_settings : Result Settings (Bor (List ℕ) × WordFault)
    → Result (List ℕ × Option Version) (List ℕ × WordFault)
told_settings result = told_word (λ s. (s.arch.now, s.kernel)) result
