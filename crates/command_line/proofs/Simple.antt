-- The programs' command lines are simple ones: clap defines their matches and their faults.
use Rattle.std.proofs.Common.{◌≡◌, true, refl}
use Rattle.clap.specs.Faults.{is_simple_and_free}
use Rattle.clap.specs.Simple.{is_simple}
use Rattle.command_line.specs.Nodeagent.{nodeagent}
use Rattle.command_line.specs.Scriptctl.{scriptctl}
use Rattle.command_line.specs.Scriptd.{scriptd}

pub scriptd_is_simple : is_simple scriptd ≡ true
unfolding scriptd
scriptd_is_simple = refl

pub scriptd_is_free : is_simple_and_free scriptd ≡ true
unfolding scriptd
scriptd_is_free = refl

pub nodeagent_is_simple : is_simple nodeagent ≡ true
unfolding nodeagent
nodeagent_is_simple = refl

pub nodeagent_is_free : is_simple_and_free nodeagent ≡ true
unfolding nodeagent
nodeagent_is_free = refl

pub scriptctl_is_simple : is_simple scriptctl ≡ true
unfolding scriptctl
scriptctl_is_simple = refl

pub scriptctl_is_free : is_simple_and_free scriptctl ≡ true
unfolding scriptctl
scriptctl_is_free = refl
