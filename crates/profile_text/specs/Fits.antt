-- The limits that the types of a profile ensure for its parts: oci_profile, Conditions and Entries.
use Rattle.std.specs.Prelude.{◌<◌, ◌≤◌, ◌^◌}
use Rattle.action.specs.declared.verdict.TheConstants.{MAX_ERRNO}
use Rattle.oci_profile.specs.declared.decision.Decision.{Decision}
use Rattle.oci_profile.specs.declared.decision.Decision.TheVariants.{KillProcess, KillThread, Trap, Errno}
use Rattle.oci_profile.specs.declared.decision.Decision.TheVariants.{Trace, Allow, Log}
use Rattle.oci_profile.specs.declared.profile.Entry.{Entry}
use Rattle.oci_profile.specs.Conditions.{AreConds}
use Rattle.profile_text.specs.declared.named.NamedEntry.{NamedEntry}

abbrev pub FitsDecision : Decision → Type 0
FitsDecision (Errno errno) = errno ≤ MAX_ERRNO
FitsDecision (Trace message) = message < 2 ^ 16
FitsDecision KillProcess = Unit {0}
FitsDecision KillThread = Unit {0}
FitsDecision Trap = Unit {0}
FitsDecision Allow = Unit {0}
FitsDecision Log = Unit {0}

pub record FitsEntry (entry : Entry) : Type 0 where
  pub decision : FitsDecision entry.decision
  pub conds : AreConds entry.conds

pub record FitsNamed (entry : NamedEntry) : Type 0 where
  pub decision : FitsDecision entry.decision
  pub conds : AreConds entry.conds
