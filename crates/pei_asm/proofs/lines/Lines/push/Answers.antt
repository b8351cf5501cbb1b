use Rattle.std.proofs.Common.{arith, ◌≡◌, ◌++◌, ◌∷◌, [], ◌+◌, ◌||◌, if◌then◌else◌, Some, None, map, sym, ap, ◌∙◌, is_some, false}
use Rattle.std.specs.Option.{option_map_or}
use Rattle.std.proofs.lemmas.List.{map-append}
use Rattle.std.proofs.lemmas.List.Elements.{All-same, All-push}
use Rattle.pei_asm.specs.Faults.{has_entry}
use Rattle.pei_asm.specs.Sources.{HasWellFormed, line_of, place_in}
use Rattle.pei_asm.specs.Meaning.{instruction_count, place_among, same_core}
use Rattle.pei_asm.specs.Stored.{stored, instruction_on}
use Rattle.pei_asm.proofs.Placing.{count_snoc, entry_snoc, has_room, not_among, placed_on}
use Rattle.pei_asm.proofs.lines.Lines.push.Goals as goal

-- a new label has no place yet
pub define_label-requires : goal.define_label-requires
define_label-requires c = not_among c.args.self.now.labels (stored c.args.self.now) c.requires.stored.labels c.args.line.label c.requires.label

pub returns-clause-stored : goal.returns-clause-stored
returns-clause-stored c =
    let ls = stored c.args.self.now
    in let l = line_of c.args.line
    in let grown : map line_of c.push.new.self.items ≡ ls ++ l ∷ [] = ap (map line_of) c.in-Ok.ensures.items ∙ map-append line_of c.args.self.now.lines.items (c.args.line ∷ [])
    in let counted : c.args.self.now.instructions + c.instructions.result ≡ instruction_count (ls ++ l ∷ []) = ap (λ n. c.args.self.now.instructions + n) c.instructions.ensures ∙ ap (λ n. n + (if is_some (instruction_on l) then 1 else 0)) c.requires.stored.count ∙ sym (count_snoc ls l)
    in record {
      labels =
          λ label. ap (λ labels. place_in labels label) c.in_ok-define_label.ensures
          ∙ placed_on c.args.self.now.labels ls l c.args.self.now.instructions c.requires.stored.count c.requires.stored.labels label ∙ ap (λ xs. place_among xs label) (sym grown);
      count = counted ∙ ap instruction_count (sym grown);
      most = (let room = has_room ls l.statement c.requires.room (search (arith, c.requires.stored.count, c.requires.stored.most)) in omega (arith, counted, count_snoc ls l, room));
      own_entries =
          λ core h. c.note_entry.ensures.own core (has_entry ls (Some (Some core))) (c.requires.stored.own_entries core h)
          ∙ ap (λ e. Some (has_entry ls (Some (Some core)) || option_map_or (same_core (Some core)) e false)) c.entry.ensures.core
          ∙ ap Some (sym (entry_snoc ls l (Some core)) ∙ ap (λ xs. has_entry xs (Some (Some core))) (sym grown));
      common_entry =
          c.note_entry.ensures.common ∙ ap (λ b. b || option_map_or (same_core None) c.entry.result false) c.requires.stored.common_entry
          ∙ ap (λ e. has_entry ls (Some None) || option_map_or (same_core None) e false) c.entry.ensures.core
          ∙ sym (entry_snoc ls l None) ∙ ap (λ xs. has_entry xs (Some None)) (sym grown);
      well_formed =
          All-same HasWellFormed c.push.new.self.items (c.args.self.now.lines.items ++ c.args.line ∷ []) c.in-Ok.ensures.items
          (All-push HasWellFormed c.args.self.now.lines.items c.args.line c.requires.stored.well_formed c.requires.well_formed);
    }
