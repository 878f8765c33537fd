use Rattle.std.proofs.Common.{◌<◌, ℕ, ◌∙◌, arith, refl, get_or, List, length, length-set}
use Rattle.std.proofs.lemmas.Grind.{get_or-set_at}
use Rattle.std.proofs.lemmas.List.{get_or-set_other}
use Rattle.std.proofs.lemmas.Option.{slice_get-get_or}
use Rattle.bpf_code.specs.declared.insn.Insn.{Insn}
use Rattle.bpf_verify.specs.Sound.{FindsWord, KeepsNumber, AllKeepRules}
use Rattle.bpf_verify.proofs.Places.{no_insn, places_read, places_all}
use Rattle.bpf_verify.proofs.Rules.{goes_below}
use Rattle.bpf_verify.proofs.Stored.{tells_start, tells_more, finds_set, misses_clear}
use Rattle.bpf_verify.proofs.words.first_unstored_by.Goals as goal

keeps : (code : List Insn) (at : ℕ) (d : Insn) → AllKeepRules code → at < length code
    → KeepsNumber (get_or code at d).op (get_or code at d).k
keeps code at d rules within = (rules at (get_or code at d) (slice_get-get_or code at d within)).number

pub loop-at-init : goal.loop-at-init
loop-at-init c = record {
  told = tells_start c.args.code.now _ (get_or-set_at c.args.masks.now 0 0 0 0 refl (omega arith))
      (λ p later within. get_or-set_other c.args.masks.now 0 p 0 0 (λ first. omega (arith, first, later))
      ∙ c.requires.set p (omega (arith, within, length-set {A = ℕ})));
  found = λ earlier other below. absurd (omega (arith, below));
}

pub finds_word-requires : goal.finds_word-requires
finds_word-requires c = keeps c.args.code.now c.loop-at.at _ c.requires.rules c.loop-at-test.true

pub returns-then-not-finds_word-clause-unstored : goal.returns-then-not-finds_word-clause-unstored
returns-then-not-finds_word-clause-unstored c =
    misses_clear c.args.code.now c.loop-at.at _ c.loop-at.masks c.loop-at.invariant.told
    (omega (arith, length-set {A = ℕ}))
    (slice_get-get_or c.args.code.now c.loop-at.at _ c.loop-at-test.true)
    (keeps c.args.code.now c.loop-at.at _ c.requires.rules c.loop-at-test.true)
    c.if-not-finds_word.ensures.missed.0 c.if-not-finds_word.ensures.missed.1 c.loop-at.invariant.found

pub after-requires : goal.after-requires
after-requires c = keeps c.args.code.now c.loop-at.at _ c.requires.rules c.loop-at-test.true

pub pass_on-requires-clause-targets : goal.pass_on-requires-clause-targets
pass_on-requires-clause-targets c =
    goes_below c.args.code.now c.loop-at.at _ _ c.requires.rules c.requires.last
    (slice_get-get_or c.args.code.now c.loop-at.at _ c.loop-at-test.true) (omega (arith, length-set {A = ℕ}))

pub loop-at-preserved : goal.loop-at-preserved
loop-at-preserved c =
    let within : c.loop-at.at < length c.loop-at.masks = omega (arith, length-set {A = ℕ}) in
    record {
      told = rw (c.pass_on.ensures, c.after.ensures)
          (tells_more c.args.code.now c.loop-at.at _ c.loop-at.masks c.loop-at.invariant.told
          (slice_get-get_or c.args.code.now c.loop-at.at _ c.loop-at-test.true) within);
      found = places_read (FindsWord c.args.code.now) c.args.code.now c.loop-at.at no_insn
          c.loop-at.invariant.found c.loop-at-test.true
          (finds_set c.args.code.now c.loop-at.at (get_or c.args.code.now c.loop-at.at no_insn)
          c.loop-at.masks c.loop-at.invariant.told within
          (keeps c.args.code.now c.loop-at.at no_insn c.requires.rules c.loop-at-test.true)
          (c.if-not-finds_word.ensures.found refl));
    }

pub returns-clause-fine : goal.returns-clause-fine
returns-clause-fine c = places_all (FindsWord c.args.code.now) c.args.code.now c.loop-at.at
    c.loop-at.invariant.found c.loop-at-test.false
