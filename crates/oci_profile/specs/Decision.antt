-- Decisions as verdicts of filters: OCI runtime-spec 1.1, config-linux, seccomp, "action" and "errnoRet";
-- their values as in seccomp(2).
use Rattle.std.specs.Prelude.{ℕ}
use Rattle.action.specs.declared.action.Action.TheVariants as action
use Rattle.action.specs.declared.verdict.Verdict.{Verdict}
use Rattle.action.specs.Verdict as verdict
use Rattle.oci_profile.specs.declared.decision.Decision.{Decision}
use Rattle.oci_profile.specs.declared.decision.Decision.TheVariants.{KillProcess, KillThread, Trap, Errno}
use Rattle.oci_profile.specs.declared.decision.Decision.TheVariants.{Trace, Allow, Log}

abbrev pub verdict_of : Decision → Verdict
verdict_of KillProcess = record { action = action.KillProcess; ret_data = 0 }
verdict_of KillThread = record { action = action.KillThread; ret_data = 0 }
verdict_of Trap = record { action = action.Trap; ret_data = 0 }
verdict_of (Errno errno) = record { action = action.Errno; ret_data = errno }
verdict_of (Trace message) = record { action = action.Trace; ret_data = message }
verdict_of Allow = record { action = action.Allow; ret_data = 0 }
verdict_of Log = record { action = action.Log; ret_data = 0 }

abbrev pub value_of : Decision → ℕ
value_of decision = verdict.value_of (verdict_of decision)
