use Rattle.std.proofs.Common.{◌≡◌, ◌<◌, ◌+◌, true, ap, refl, subst, inl, inr, arith}
use Rattle.cri_msgs.specs.declared.replies.Answer.TheVariants.{Container}
use Rattle.runtime_cell.specs.declared.label.Label.{Label}
use Rattle.creation.specs.Files.{IsMade, text_in}
use Rattle.registry.proofs.PlacedParts.{placed_part, unplaced_part}
use Rattle.registry.proofs.Placing.{placed_keeps, placed_spares, unplaced_keeps, unplaced_spares}
use Rattle.registry.proofs.ScriptRead.{was_read}
use Rattle.registry.proofs.registry.Registry.make.Goals as goal

pub returns-then-self-clause-row : goal.returns-then-self-clause-row
returns-then-self-clause-row c = inr (inl (
  was_read (text_in c.args.files.script) c.in-Ok.cell.making c.in-Ok.ensures.made.from.script,
  (refl, refl),
))

pub returns-in-Ok-settle-clause-row : goal.returns-in-Ok-settle-clause-row
returns-in-Ok-settle-clause-row c =
    let next : c.saturating_add-id.result ≡ c.args.self.now.made + 1 =
    omega (arith, c.saturating_add-id.ensures, c.if-self.false) in
    inr (inr (
      c.in-Ok.cell,
      subst (λ id. IsMade c.args.self.now.baseline id c.args.key.container c.args.image.now c.args.choice.now
          c.args.files c.in-Ok.cell) next c.in-Ok.ensures.made,
      ap Container next,
      placed_part c.args.self.now c.settle.new.self c.args.key.uid c.args.key.container
          c.saturating_add-id.result c.args.cells.now c.settle.new.cells c.in-Ok.cell true
          c.in-Ok-settle.ensures.ok next c.in-Ok-settle.ensures.cells c.requires.live,
    ))

pub returns-in-Ok-settle-clause-spares : goal.returns-in-Ok-settle-clause-spares
returns-in-Ok-settle-clause-spares c =
    let more : c.args.self.now.made < c.saturating_add-id.result =
    omega (arith, c.saturating_add-id.ensures, c.if-self.false) in
    placed_spares c.args.self.now c.settle.new.self c.args.key.uid c.args.key.container
    c.saturating_add-id.result c.in-Ok-settle.ensures.ok more c.args.cells.now

pub returns-in-Ok-settle-clause-keeps : goal.returns-in-Ok-settle-clause-keeps
returns-in-Ok-settle-clause-keeps c =
    let more : c.args.self.now.made < c.saturating_add-id.result =
    omega (arith, c.saturating_add-id.ensures, c.if-self.false) in
    placed_keeps c.args.self.now c.settle.new.self c.args.key.uid c.args.key.container
    c.saturating_add-id.result c.in-Ok-settle.ensures.ok more
    c.args.cells.now c.settle.new.cells c.in-Ok.cell true c.in-Ok-settle.ensures.cells
    (ap (λ (label : Label). label.id) c.in-Ok.ensures.made.from.label) c.requires.live

pub returns-in-Err-settle-clause-row : goal.returns-in-Err-settle-clause-row
returns-in-Err-settle-clause-row c = inr (inl (
  was_read (text_in c.args.files.script) c.in-Ok.cell.making c.in-Ok.ensures.made.from.script,
  (
    refl,
    unplaced_part c.args.self.now c.settle.new.self c.args.key.uid c.args.cells.now c.settle.new.cells
        c.in-Err-settle.ensures.err c.in-Err-settle.ensures.same,
  ),
))

pub returns-in-Err-settle-clause-spares : goal.returns-in-Err-settle-clause-spares
returns-in-Err-settle-clause-spares c =
    unplaced_spares c.args.self.now c.settle.new.self c.args.key.uid c.args.cells.now
    c.in-Err-settle.ensures.err

pub returns-in-Err-settle-clause-keeps : goal.returns-in-Err-settle-clause-keeps
returns-in-Err-settle-clause-keeps c = unplaced_keeps c.args.self.now c.settle.new.self c.args.key.uid
    c.args.cells.now c.settle.new.cells c.in-Err-settle.ensures.err c.in-Err-settle.ensures.same
