-- All are computed over the table.
use Rattle.std.proofs.Common.{refl}
use Rattle.sys_table.specs.SysTable.{names, number_in}
use Rattle.profile_learn.proofs.laws.small_arguments_are_as_named.Goals as goal

pub returns-clause-ioctl : goal.returns-clause-ioctl
unfolding number_in names
returns-clause-ioctl c = refl

pub returns-clause-socket : goal.returns-clause-socket
unfolding number_in names
returns-clause-socket c = refl

pub returns-clause-fcntl : goal.returns-clause-fcntl
unfolding number_in names
returns-clause-fcntl c = refl

pub returns-clause-personality : goal.returns-clause-personality
unfolding number_in names
returns-clause-personality c = refl

pub returns-clause-prctl : goal.returns-clause-prctl
unfolding number_in names
returns-clause-prctl c = refl
