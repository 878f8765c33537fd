-- Kubernetes 1.27, pod lifecycle: container restart policy, and init containers ("Detailed behavior").
use Rattle.std.specs.Prelude.{ℕ, ◌==◌, Bool, true, false, not}
use Rattle.lifecycle.specs.declared.policy.RestartPolicy.{RestartPolicy}
use Rattle.lifecycle.specs.declared.policy.RestartPolicy.TheVariants.{Always, OnFailure, Never}

-- whether a container, an init container or another, may be started again after it ended with a code
abbrev pub may_restart : RestartPolicy → Bool → ℕ → Bool
may_restart Always false code = true
may_restart Always true code = not (code == 0)
may_restart OnFailure init code = not (code == 0)
may_restart Never init code = false
