-- Architectures by their names and by their AUDIT_ARCH numbers of linux/audit.h. Which names there are is this
-- project's own: docs/SEMANTICS.md, "Programs".
use Rattle.std.specs.Prelude.{ℕ, ◌^◌, ◌==◌, if◌then◌else◌, List, [], ◌∷◌, codes, Option, Some, None}
use Rattle.std.specs.Prelude.{option_and_then, Result, Ok}
use Rattle.std.specs.Str.{bytes_eq}
use Rattle.command_line.specs.Numbers.{number_in}
use Rattle.command_line.specs.Words.{number_or_word}

-- of the names of a number the first is that of templates, and the other that of `uname -m`
unfoldable pub architectures : List (List ℕ × ℕ)
architectures =
    (codes "amd64", 0xc000003e) ∷ (codes "x86_64", 0xc000003e) ∷ (codes "x86", 0x40000003)
    ∷ (codes "arm", 0x40000028) ∷ (codes "arm64", 0xc00000b7)
    ∷ (codes "aarch64", 0xc00000b7) ∷ (codes "mips", 0x8) ∷ (codes "mips64", 0x80000008)
    ∷ (codes "mips64n32", 0xa0000008) ∷ (codes "mipsel", 0x40000008) ∷ (codes "mipsel64", 0xc0000008)
    ∷ (codes "mipsel64n32", 0xe0000008) ∷ (codes "ppc", 0x14) ∷ (codes "ppc64", 0x80000015)
    ∷ (codes "ppc64le", 0xc0000015) ∷ (codes "riscv64", 0xc00000f3) ∷ (codes "s390", 0x16)
    ∷ (codes "s390x", 0x80000016) ∷ []

-- the number of this name
abbrev pub number_among : List (List ℕ × ℕ) → List ℕ → Option ℕ
number_among [] word = None
number_among (row ∷ rows) word = if bytes_eq row.0 word then Some row.1 else number_among rows word

-- the first name of this number
abbrev pub name_among : List (List ℕ × ℕ) → ℕ → Option (List ℕ)
name_among [] number = None
name_among (row ∷ rows) number = if row.1 == number then Some row.0 else name_among rows number

-- a name is looked for before a number
abbrev pub first_some : Option ℕ → Option ℕ → Option ℕ
first_some (Some number) other = Some number
first_some None other = other

-- the architecture that a word names, or writes as a number
unfoldable pub arch_in : List ℕ → Option ℕ
arch_in word = first_some (number_among architectures word) (number_in (2 ^ 32) word)

-- 0xc000003e is AUDIT_ARCH_X86_64
abbrev pub arch_or : Option (List ℕ) → Result ℕ (List ℕ)
arch_or None = Ok 0xc000003e
arch_or (Some word) = number_or_word word (arch_in word)

-- the name in templates of the architecture that a word names, or writes as a number
unfoldable pub template_arch : List ℕ → Option (List ℕ)
template_arch word = option_and_then (name_among architectures) (arch_in word)
