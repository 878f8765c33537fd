-- Calls and verdicts as a person reads them, this project's own: docs/SEMANTICS.md, "Programs".
use Rattle.std.specs.Prelude.{ℕ, ◌==◌, if◌then◌else◌, false, List, ◌++◌, codes}
use Rattle.std.specs.Fmt.{decimal, digits}
use Rattle.call_names.specs.Text.{call_text as word_text}
use Rattle.call_names.specs.declared.naming.Naming.TheVariants.{Name}
use Rattle.sys_table.specs.declared.calls.CallTable.{CallTable}

-- the name of one of these calls of x86-64, or its number: 0xc000003e is AUDIT_ARCH_X86_64 of linux/audit.h
unfoldable pub call_text : CallTable → ℕ → ℕ → List ℕ
call_text calls nr arch = if arch == 0xc000003e then word_text (Name calls) nr
    else decimal nr ++ (codes " --arch 0x" ++ digits 16 false arch)
