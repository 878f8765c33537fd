-- A page, from what is known where it is made.
use Rattle.std.proofs.Common.{◌≡◌, ℕ, List, ◌++◌, map, Result, Ok, Err, ap, ◌∙◌}
use Rattle.std.specs.Prelude.{IfOk, string_bytes}
use Rattle.std.specs.List.{All}
use Rattle.std.specs.declared.string.String.{String}
use Rattle.sys_table.specs.SysTable.{limit_of}
use Rattle.profile_table.specs.Rows.{IsRowOf, named_below}
use Rattle.profile_table.specs.declared.row.Row.{Row}
use Rattle.profile_report.specs.declared.document.Parts.{Parts}
use Rattle.profile_report.specs.declared.document.Report.{Report}
use Rattle.profile_report.specs.Page.{IsPage, lower_part, upper_part}

pub is_page : {Y E : Type 0} (made : Result (String Y) E) (style : List ℕ) (report : Report) (parts : Parts)
    (rows : List Row) (upper : List ℕ)
    → map (λ row. row.nr) rows ≡ named_below report.calls (limit_of report.calls)
    → All (IsRowOf report.calls report.profile.now) rows
    → upper ≡ upper_part style report rows parts
    → IfOk made (λ text. string_bytes text ≡ upper ++ lower_part report parts)
    → IfOk made (λ text. IsPage style report parts (string_bytes text))
is_page (Ok text) style report parts rows upper each real first is = record {
  rows = rows;
  each = each;
  real = real;
  is = is ∙ ap (λ xs. xs ++ lower_part report parts) first;
}
is_page (Err e) style report parts rows upper each real first is = tt
