use Rattle.std.proofs.Common.{arith, ◌≡◌, ℕ, List, ◌∷◌, [], ◌++◌, ◌+◌, ◌<◌, ◌≤◌, length, Option, Some, None, Bor, IfSome, sym, ap, ◌∙◌, map}
use Rattle.std.proofs.lemmas.List.{length-append, length-map}
use Rattle.pei_asm.specs.declared.lines.SourceLine.{SourceLine}
use Rattle.std.specs.Prelude.{option_map, filter_map}
use Rattle.std.specs.Option.{option_map_or}
use Rattle.pei_asm.specs.Faults.{first_line_fault}
use Rattle.pei_asm.specs.Sources.{line_of}
use Rattle.asm_statements.specs.Statements.{meaning_of}
use Rattle.pei_asm.specs.Stored.{lines_left, stored}
use Rattle.pei_asm.proofs.LineSplits.{one_line_on, stops_at_a_fault, one_meaning_on}
use Rattle.pei_asm.proofs.reading.read_lines.Goals as goal

bytes_of : Option (Bor (List ℕ)) → Option (List ℕ)
bytes_of o = option_map (λ b. b.now) o

pub overflow_add-number : goal.overflow_add-number
overflow_add-number c =
    let here : c.loop-rest.number + length c.in-Some.bytes.now ≤ length c.args.text.now = (let e = ap (λ o. option_map_or (λ b. c.loop-rest.number + length b.now) o 0) c.in-Some.is in omega (arith, e, c.loop-rest.invariant.short))
    in search (arith, here, c.requires)

pub read_line-requires-clause-short : goal.read_line-requires-clause-short
read_line-requires-clause-short c =
    let here : c.loop-rest.number + length c.in-Some.bytes.now ≤ length c.args.text.now = (let e = ap (λ o. option_map_or (λ b. c.loop-rest.number + length b.now) o 0) c.in-Some.is in omega (arith, e, c.loop-rest.invariant.short))
    in omega (arith, here, c.requires, c.split_line.ensures.line)

pub returns-in-Err-clause-fault : goal.returns-in-Err-clause-fault
returns-in-Err-clause-fault c =
    λ k. let after = lines_left (option_map (λ b. b.now) c.split_line.result.1)
    in let left : lines_left (option_map (λ b. b.now) c.loop-rest.rest) ≡ c.split_line.result.0.now ∷ after =
    ap (λ o. lines_left (option_map (λ b. b.now) o)) c.in-Some.is ∙ c.split_line.ensures.lines
    in sym c.loop-rest.invariant.faults ∙ ap (first_line_fault (stored c.loop-rest.lines) (c.loop-rest.number + 1)) left
    ∙ stops_at_a_fault (stored c.loop-rest.lines) (c.loop-rest.number + 1) c.split_line.result.0.now after c.in-Err.fault (c.in-Err.ensures.fault k)

one_more : (after before : List SourceLine) (line : SourceLine) (n : ℕ) → length before ≡ n → map line_of after ≡ map line_of before ++ line_of line ∷ [] → length after ≡ n + 1
one_more after before line n h e =
    let same = ap length e
    in omega (arith, h, same, length-map after line_of, length-map before line_of, length-append (map line_of before) (line_of line ∷ []))

shorter : (n m : ℕ) (o : Option (Bor (List ℕ))) (k : ℕ) → n + k ≤ m → IfSome o (λ b. length b.now < k) → option_map_or (λ b. (n + 1) + length b.now) o 0 ≤ m
shorter n m None k h less = omega arith
shorter n m (Some b) k h less = omega (arith, h, less)

pub loop-rest-preserved : goal.loop-rest-preserved
loop-rest-preserved c =
    let here : c.loop-rest.number + length c.in-Some.bytes.now ≤ length c.args.text.now = (let e = ap (λ o. option_map_or (λ b. c.loop-rest.number + length b.now) o 0) c.in-Some.is in omega (arith, e, c.loop-rest.invariant.short))
    in let ls = stored c.loop-rest.lines
    in let n = c.loop-rest.number + 1
    in let line = c.split_line.result.0.now
    in let l = line_of c.in-Ok.line
    in let after = lines_left (option_map (λ b. b.now) c.split_line.result.1)
    in let left : lines_left (option_map (λ b. b.now) c.loop-rest.rest) ≡ line ∷ after = ap (λ o. lines_left (option_map (λ b. b.now) o)) c.in-Some.is ∙ c.split_line.ensures.lines
    in record {
      kept = c.in-Ok-push.ensures.stored;
      counted = one_more c.push.new.self.lines.items c.loop-rest.lines.lines.items c.in-Ok.line c.loop-rest.number c.loop-rest.invariant.counted c.in-Ok-push.ensures.more;
      faults =
          ap (λ xs. first_line_fault xs (n + 1) after) c.in-Ok-push.ensures.more ∙ sym (one_line_on ls n line after l c.in-Ok.ensures.none c.in-Ok.ensures.means)
          ∙ ap (first_line_fault ls n) (sym left) ∙ c.loop-rest.invariant.faults;
      meant =
          ap (λ xs. xs ++ filter_map meaning_of after) c.in-Ok-push.ensures.more ∙ sym (one_meaning_on ls line after l c.in-Ok.ensures.means)
          ∙ ap (λ xs. ls ++ filter_map meaning_of xs) (sym left) ∙ c.loop-rest.invariant.meant;
      short = shorter c.loop-rest.number (length c.args.text.now) c.split_line.result.1 (length c.in-Some.bytes.now) here c.split_line.ensures.rest;
    }
