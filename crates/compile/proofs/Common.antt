-- Re-exports the names that most proofs of this crate cite. Declares nothing.
pub use Rattle.std.proofs.Common.{All, Bool, Err, Global, IfOk, IfSome, IsSome, IsTrue, List, None, Ok, OnOk}
pub use Rattle.std.proofs.Common.{Option, Result, Some, Vec, [], add-one, ap, arith, bit_and, cond, drop}
pub use Rattle.std.proofs.Common.{false, get_or, get_or-drop, get_or-take, inl, inr, length, min}
pub use Rattle.std.proofs.Common.{is_some, nat_le, nat_lt, not, refl, reverse, rules, slice_get, slice_index}
pub use Rattle.std.proofs.Common.{slice_index_or, slice_range, slice_set, subst, suc, sum_by, sym, take, true}
pub use Rattle.std.proofs.Common.{true≢false, zero, ℕ, ◌%◌, ◌&&◌, ◌*◌, ◌++◌, ◌+◌, ◌-◌, ◌/◌, ◌<◌, ◌==◌, ◌^◌}
pub use Rattle.std.proofs.Common.{◌||◌, ◌∙◌, ◌∷◌, ◌≡◌, ◌≢◌, ◌≤◌, ◌⊎◌}
pub use Rattle.std.proofs.Math.Nat.{pow-suc}
pub use Rattle.std.proofs.lemmas.Bool.{cases_eq, cases_lt, eq-eqb, false≢true, ne_eqb}
pub use Rattle.std.proofs.lemmas.Bool.Decides.{nat_tests}
pub use Rattle.std.proofs.lemmas.List.{at_drop_more, length-reverse, take-append-drop, take_all}
pub use Rattle.std.proofs.lemmas.List.Edits.{length-remove}
pub use Rattle.std.proofs.lemmas.List.Elements.{All-head, All-tail}
pub use Rattle.std.proofs.lemmas.Nat.{div-add-mod'}
pub use Rattle.std.proofs.lemmas.Result.{IfOk-weaker, on_ok_weaker}
pub use Rattle.std.specs.List.{list_any, remove}
pub use Rattle.std.specs.declared.alloc.AllocError.{AllocError}
pub use Rattle.bpf_code.specs.declared.insn.Insn.{Insn}
pub use Rattle.bpf_code.specs.declared.limits.TheConstants.{MAX_INSNS}
pub use Rattle.bpf_code.specs.declared.operation.Operation.{Operation}
pub use Rattle.bpf_code.specs.declared.operation.Operation.TheVariants.{AndK, Jump, LoadData, ReturnK}
pub use Rattle.bpf_verify.specs.Sound.{IsSound}
pub use Rattle.call_data.specs.CallData.{IsCall}
pub use Rattle.call_data.specs.declared.sys_call.SysCall.{SysCall}
pub use Rattle.oci_profile.specs.Decision.{value_of}
pub use Rattle.oci_profile.specs.Entries.{AreEntries}
pub use Rattle.oci_profile.specs.Meaning.{all_of, decision_of, entry_weight, holds_on}
unfoldable pub use Rattle.oci_profile.specs.Meaning.{all_hold, chosen, meaning, names, weight}
pub use Rattle.oci_profile.specs.declared.conditions.Cond.{Cond}
pub use Rattle.oci_profile.specs.declared.decision.Decision.{Decision}
pub use Rattle.oci_profile.specs.declared.decision.Decision.TheVariants.{KillProcess}
pub use Rattle.oci_profile.specs.declared.profile.Entry.{Entry}
pub use Rattle.oci_profile.specs.declared.profile.Profile.{Profile}
pub use Rattle.sys_table.specs.declared.table.TheConstants.{TABLE_LIMIT}
pub use Rattle.compile.specs.Backward.{Builds, Gives, GivesAlways, IsBackward, Keeps, LeadsTo, PointsInside}
unfoldable pub use Rattle.compile.specs.Backward.{data_word}
pub use Rattle.compile.specs.Backward.Gives.{ends, leads}
pub use Rattle.compile.specs.Bounds.{AreBare, IsBare, IsEquality, conditions_at}
unfoldable pub use Rattle.compile.specs.Bounds.{named, named_below}
pub use Rattle.compile.specs.Points.{IsRising, IsSearched, value_for}
pub use Rattle.compile.specs.Ranges.{IsAlike, IsBetween, IsLike}
pub use Rattle.compile.specs.Residuals.{asks, atom_holds, clause_holds, clauses_hold, first_value}
pub use Rattle.compile.specs.Residuals.{literal_holds, seen, shown}
pub use Rattle.compile.specs.Rooms.{Says, size_of_clause, size_of_clauses, size_of_literal, size_of_rules}
pub use Rattle.compile.specs.Sizes.{AreAsked, IsEnough, NoneDecides, Suffices, added_of, settles, steps_at}
unfoldable pub use Rattle.compile.specs.Sizes.{added_below, tree_size}
pub use Rattle.compile.specs.Sizes.Suffices.{at_once, for_each}
pub use Rattle.compile.specs.Tests.{holds_of}
pub use Rattle.compile.specs.Ways.{GivesWith, WayGives, told}
pub use Rattle.compile.specs.declared.atom.Ask.{Ask}
pub use Rattle.compile.specs.declared.atom.Atom.{Atom}
pub use Rattle.compile.specs.declared.atom.Probe.{Probe}
pub use Rattle.compile.specs.declared.atom.TheConstants.{NOWHERE, WHOLE}
pub use Rattle.compile.specs.declared.atom.View.{View}
pub use Rattle.compile.specs.declared.build.Way.{Way}
pub use Rattle.compile.specs.declared.clause.Clause.{Clause}
pub use Rattle.compile.specs.declared.clause.Literal.{Literal}
pub use Rattle.compile.specs.declared.clause.Literal.TheVariants.{Asked, Known}
pub use Rattle.compile.specs.declared.clause.Rule.{Rule}
pub use Rattle.compile.specs.declared.search.Point.{Point}
