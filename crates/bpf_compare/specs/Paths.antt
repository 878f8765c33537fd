-- Which calls take a path through both filters. Only private functions cite this.
use Rattle.std.specs.Prelude.{◌≡◌, ◌⊎◌, ℕ, List, [], ◌∷◌, Option, Some, None}
use Rattle.bpf_code.specs.declared.insn.Insn.{Insn}
use Rattle.call_data.specs.declared.sys_call.SysCall.{SysCall}
use Rattle.bpf_machine.specs.Machine.{State}
use Rattle.bpf_machine.specs.Runs.{Reaches}
use Rattle.bpf_compare.specs.declared.walk.Walk.{Walk}
use Rattle.bpf_compare.specs.declared.walk.Turn.{Turn}
use Rattle.bpf_compare.specs.declared.walk.Turn.TheVariants as turn
use Rattle.bpf_compare.specs.declared.path.Path.{Path}
use Rattle.bpf_compare.specs.declared.path.Progress.{Progress}
use Rattle.bpf_compare.specs.declared.path.Progress.TheVariants as progress
use Rattle.bpf_compare.specs.declared.scope.Scope.{Scope}
use Rattle.bpf_compare.specs.Agree.{Agree, Returns, Says}
use Rattle.bpf_compare.specs.Known.{IsAmong}
use Rattle.bpf_compare.specs.declared.value.Value.{Value}
use Rattle.bpf_compare.specs.Stands.{StandsFor}
use Rattle.bpf_compare.specs.Value.{Denotes}

-- the call is in the walk's set, and its run reaches a state that the walk represents
pub record Follows (code : List Insn) (call : SysCall) (walk : Walk) : Type 0 where
  pub moment : ℕ
  pub state : State
  pub reached : Reaches code call moment state
  pub stands : StandsFor call walk.registers walk.words state
  pub among : IsAmong walk.known call

-- on this call the filter returns a number that the value may be
pub record ReturnsAs (code : List Insn) (call : SysCall) (value : Value) : Type 0 where
  pub number : ℕ
  pub denotes : Denotes call value number
  pub returns : Returns code call number

-- where a call that followed a walk is after a step
abbrev pub TurnsTo : Turn → List Insn → SysCall → Walk → Type 0
TurnsTo turn.Goes code call walk = Follows code call walk
TurnsTo (turn.Splits other) code call walk = Follows code call walk ⊎ Follows code call other
TurnsTo (turn.Ends value) code call walk = ReturnsAs code call value × IsAmong walk.known call
TurnsTo turn.Narrows code call walk = Unit {0}
TurnsTo turn.Empty code call walk = ⊥
TurnsTo turn.Unclear code call walk = Unit {0}

-- a walk in the first filter, or in the second one if the first returned a value
abbrev pub IsAt : List Insn → List Insn → SysCall → Option Value → Walk → Type 0
IsAt first second call None walk = Follows first call walk
IsAt first second call (Some value) walk = ReturnsAs first call value × Follows second call walk

abbrev pub Takes : List Insn → List Insn → SysCall → Path → Type 0
Takes first second call path = IsAt first second call path.first path.walk

-- where a call that took a path is after a step
abbrev pub Becomes : Progress → List Insn → List Insn → SysCall → Path → Type 0
Becomes progress.Goes first second call path = Takes first second call path
Becomes (progress.Splits other) first second call path =
    Takes first second call path ⊎ Takes first second call other
Becomes progress.Narrows first second call path = Unit {0}
Becomes progress.Agrees first second call path = Agree first second call
Becomes (progress.Differs found) first second call path = Unit {0}
Becomes progress.Unclear first second call path = Unit {0}

-- the call is one of the path's, and each filter returns its value
pub record Meets (first second : List Insn) (call : SysCall) (path : Path) (one other : Value) : Type 0 where
  pub first_is : path.first ≡ Some one
  pub of_first : ReturnsAs first call one
  pub of_second : ReturnsAs second call other
  pub among : IsAmong path.walk.known call

-- a reported difference is real
abbrev pub Tells : Progress → Scope → List Insn → List Insn → Type 0
Tells (progress.Differs found) scope first second = Says found scope first second
Tells progress.Goes scope first second = Unit {0}
Tells (progress.Splits other) scope first second = Unit {0}
Tells progress.Narrows scope first second = Unit {0}
Tells progress.Agrees scope first second = Unit {0}
Tells progress.Unclear scope first second = Unit {0}

-- the call takes one of these paths
abbrev pub TakesOne : List Insn → List Insn → SysCall → List Path → Type 0
TakesOne first second call [] = ⊥
TakesOne first second call (path ∷ paths) = Takes first second call path ⊎ TakesOne first second call paths

-- the filters agree on the call, or it takes the path or one of those that wait
abbrev pub IsHeld : List Insn → List Insn → SysCall → Path → List Path → Type 0
IsHeld first second call path waiting =
    Agree first second call ⊎ (Takes first second call path ⊎ TakesOne first second call waiting)
