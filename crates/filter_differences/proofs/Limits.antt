use Rattle.std.proofs.Common.{◌<◌, arith}
use Rattle.sys_table.specs.SysTable.{limit_of}
use Rattle.sys_table.specs.declared.calls.CallTable.{CallTable}
use Rattle.sys_table.specs.declared.calls.CallTable.TheVariants.{Linux5_8, Linux6_12}

pub is_below_x32 : (known : CallTable) → limit_of known < 0x3fffffff
is_below_x32 Linux5_8 = omega arith
is_below_x32 Linux6_12 = omega arith
