use Rattle.sys_table.specs.declared.calls.CallTable.TheVariants.{Linux5_8}
use Rattle.sys_table.proofs.TableRules.{in_table, named_at, numbered, within}
use Rattle.sys_table.proofs.laws.names_and_numbers_agree.Goals as goal

pub returns-clause-each_way : goal.returns-clause-each_way
returns-clause-each_way c name number = (named_at Linux5_8 name number, numbered Linux5_8 number name)

pub returns-clause-small : goal.returns-clause-small
returns-clause-small c = within Linux5_8

pub returns-clause-agree : goal.returns-clause-agree
returns-clause-agree c calls name number = (named_at calls name number, numbered calls number name)

pub returns-clause-within : goal.returns-clause-within
returns-clause-within c = within

pub returns-clause-in_table : goal.returns-clause-in_table
returns-clause-in_table c = in_table
