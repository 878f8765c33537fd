use Rattle.compile.proofs.Common.{ℕ, ◌+◌, ◌*◌, ◌^◌, ◌≤◌, List, length, ap, inl, inr, arith, rules}
use Rattle.compile.proofs.Common.{Profile, weight, TABLE_LIMIT, Suffices, added_below, steps_at, tree_size}
use Rattle.compile.proofs.Common.{for_each}
use Rattle.compile.specs.Sizes.Suffices.{balanced}
use Rattle.compile.proofs.Weights.{light_fits, levels_enough, no_heavier, all_steps, steps_all, two_times}
use Rattle.compile.proofs.compiler.compile.Goals as goal

pub assemble-requires-clause-short : goal.assemble-requires-clause-short
assemble-requires-clause-short c =
    let profile : Profile = c.args.profile.now in
    let all : List ℕ = c.in_ok-all.all in
    let same = ap (λ s. tree_size profile s 0 (length s)) c.in_ok-all.ensures in
    let light : weight profile ≤ 4096 = search rules in
    light_fits profile (length c.in_ok-starts.starts.items) (tree_size profile all 0 (length all))
    TABLE_LIMIT (TABLE_LIMIT + 1) c.in_ok-starts.ensures.fit c.in_ok-starts.ensures.few
    (omega (arith, same, c.in_ok-starts.ensures.short)) light

pub returns-clause-weighed : goal.returns-clause-weighed
returns-clause-weighed c =
    let profile : Profile = c.args.profile.now in
    let all : List ℕ = c.in_ok-all.all in
    let plain : List ℕ = c.in_ok-starts.starts.items in
    let size : ℕ = tree_size profile all 0 (length all) in
    let same = ap (λ s. tree_size profile s 0 (length s)) c.in_ok-all.ensures in
    let small : size ≤ 3 * length plain + added_below profile.entries (TABLE_LIMIT + 1) =
    omega (arith, same, c.in_ok-starts.ensures.short) in
    no_heavier profile (length plain) size TABLE_LIMIT (TABLE_LIMIT + 1) (length c.in_ok-filter.filter)
    c.in_ok-starts.ensures.fit c.in_ok-starts.ensures.few small c.in_ok-filter.ensures.long

pub returns-clause-means : goal.returns-clause-means
returns-clause-means c = λ call is_call.
    let entries = c.args.profile.now.entries in
    let run = c.in_ok-filter.ensures.runs call c.room.result (all_steps entries + 1) is_call
    (inl (all_steps entries, omega arith, for_each (steps_all entries call.nr)))
    (levels_enough c.room.result) in
    (run.0, run.2)

pub returns-clause-few : goal.returns-clause-few
returns-clause-few c = λ bare call d is_call digits.
    let roomy : c.room.result ≤ 2 ^ (d + 1) =
    omega (
      arith,
      two_times d,
      digits.below,
      c.room.ensures.bare bare,
      ap length c.in_ok-all.ensures,
      c.in_ok-starts.ensures.few,
    ) in
    let run = c.in_ok-filter.ensures.runs call (d + 1) 1 is_call (inr (bare, omega arith)) roomy in
    (run.0, omega (arith, run.1), run.2)

pub returns-clause-bounded : goal.returns-clause-bounded
returns-clause-bounded c = λ call d is_call digits.
    let steps : ℕ = steps_at c.args.profile.now.entries call.nr in
    let run = c.in_ok-filter.ensures.runs call (d + 3) (steps + 1) is_call
    (inl (steps, omega arith, for_each (omega arith))) (c.room.ensures.most d digits) in
    (run.0, omega (arith, run.1), run.2)

pub returns-clause-balanced : goal.returns-clause-balanced
returns-clause-balanced c = λ call d index k is_call digits equal counted.
    let few : Suffices c.args.profile.now.entries call.nr (1 + 12 * k) =
    balanced index k equal counted.below (omega arith) in
    let run = c.in_ok-filter.ensures.runs call (d + 3) (2 + 12 * k) is_call
    (inl (1 + 12 * k, omega arith, few)) (c.room.ensures.most d digits) in
    (run.0, omega (arith, run.1), run.2)
