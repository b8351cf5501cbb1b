use Rattle.std.proofs.Common.{rules, ◌≡◌, ◌∷◌, ◌≤◌, ℕ, List, suc, drop, map, fold, arith, sym, ap, ◌∙◌}
use Rattle.std.specs.Prelude.{filter_map}
use Rattle.std.proofs.Math.Seq.{drop-cons}
use Rattle.pei_asm.specs.Items.{with_item}
use Rattle.pei_asm.specs.Places.{item_on, place_or_start}
use Rattle.pei_asm.specs.Sources.{line_of}
use Rattle.pei_asm.specs.Meaning.{program_of}
use Rattle.pei_asm.specs.Stored.{stored}
use Rattle.pei_asm.proofs.ItemByItem.{built}
use Rattle.pei_asm.proofs.Printables.{place_below}
use Rattle.pei_asm.proofs.SourceItems.{as_many_instructions, cores_of_lines, room_for_next}
use Rattle.pei_asm.proofs.building.program_of.Goals as goal

pub loop-line-init : goal.loop-line-init
loop-line-init c =
    let lines = stored c.args.lines.now
    in let places = place_or_start lines
    in let below : (text : List ℕ) → places text ≤ 65536 = λ text. omega (arith, place_below lines text, c.requires.stored.count, c.requires.stored.most)
    in let items = c.args.lines.now.lines.items
    in record {
      left =
          ap (λ p. fold with_item p (filter_map (item_on places) (map line_of c.as_slice-line-items.result.now))) c.make-program.ensures
          ∙ ap (λ ls. fold with_item _ (filter_map (item_on places) (map line_of ls))) c.as_slice-line-items.ensures
          ∙ built (filter_map (item_on places) (map line_of items)) (cores_of_lines places below items c.requires.stored.well_formed);
      few = search (rules, arith, c.make-program.ensures);
    }

pub add_line-requires-clause-room : goal.add_line-requires-clause-room
add_line-requires-clause-room c =
    let lines = stored c.args.lines.now
    in let places = place_or_start lines
    in let sources = c.as_slice-line-items.result.now
    in let i = c.loop-line.line-index
    in let line = c.line-item.result
    in let left : drop i sources ≡ line ∷ drop (suc i) sources = drop-cons sources i line c.loop-line-test.true ∙ ap (λ l. l ∷ drop (suc i) sources) (sym c.line-item.is)
    in room_for_next c.loop-line.program (program_of lines) (item_on places (line_of line)) (filter_map (item_on places) (map line_of (drop (suc i) sources)))
    (ap (λ ls. fold with_item c.loop-line.program (filter_map (item_on places) (map line_of ls))) (sym left) ∙ c.loop-line.invariant.left)
    (omega (arith, as_many_instructions places c.args.lines.now.lines.items, c.requires.stored.count, c.requires.stored.most))
