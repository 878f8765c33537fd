-- This project's own: places with the steps that are enough from there, for what is in A. Only private
-- functions cite this.
use Rattle.std.specs.Prelude.{◌≡◌, ℕ, ◌<◌, Bool, not, if◌then◌else◌, List}
use Rattle.bpf_code.specs.declared.insn.Insn.{Insn}
use Rattle.bpf_code.specs.declared.limits.TheConstants.{DATA_LEN}
use Rattle.call_data.specs.declared.sys_call.SysCall.{SysCall}
use Rattle.compile.specs.Backward.{Gives}
use Rattle.compile.specs.Residuals.{asks, seen, shown}
use Rattle.compile.specs.Tests.{holds_of}
use Rattle.compile.specs.declared.atom.Atom.{Atom}
use Rattle.compile.specs.declared.atom.Probe.{Probe}
use Rattle.compile.specs.declared.atom.View.{View}
use Rattle.compile.specs.declared.build.Way.{Way}

-- A is the word that a view shows, if the data has that word; else anything
abbrev pub HasView : View → SysCall → ℕ → Type 0
HasView view call a = view.offset < DATA_LEN → a ≡ shown view call

-- the code returns the value if A has a view
abbrev pub GivesWith : View → List Insn → SysCall → ℕ → ℕ → ℕ → Type 0
GivesWith view code call at value most = (a : ℕ) → HasView view call a → Gives code call at a value most

abbrev pub WayGives : View → List Insn → SysCall → Way → ℕ → Type 0
WayGives view code call way value = GivesWith view code call way.at value way.most

-- this view determines what another one shows
pub record Covers (view other : View) : Type 0 where
  pub same : other.offset ≡ view.offset
  pub sees : (word : ℕ) → seen other.mask (seen view.mask word) ≡ seen other.mask word

-- which of two places the branch leads to
abbrev pub taken : Probe → SysCall → ℕ → ℕ → ℕ
taken probe call hit miss = if holds_of probe.test probe.k (shown probe.base call) then hit else miss

-- the answer to a question as its branch finds it
abbrev pub answer_of : Probe → ℕ → Bool
answer_of probe number = if probe.is_turned then not (holds_of probe.test probe.k number)
    else holds_of probe.test probe.k number

abbrev pub told : Probe → SysCall → Bool
told probe call = answer_of probe (shown probe.base call)

-- the branch asks the question about a view of the same word
pub record IsProbe (atom : Atom) (probe : Probe) : Type 0 where
  pub same : probe.base.offset ≡ atom.view.offset
  pub tells : (word : ℕ) → answer_of probe (seen probe.base.mask word)
      ≡ asks atom.ask (seen atom.view.mask word)
