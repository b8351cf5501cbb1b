use Rattle.std.proofs.Common.{length, map, rules}
use Rattle.std.proofs.lemmas.Result.{err_from_is_err_and}
use Rattle.std.specs.Prelude.{slice_index}
use Rattle.kernel_text.specs.Tokens.{tokens_of, end_of}
use Rattle.kernel_text.specs.Lexemes.{placed_of}
use Rattle.kernel_text.proofs.Lexing.{fault_here, whole_step, end_step, sound_step, room_step}
use Rattle.kernel_text.proofs.tokens.read_tokens.Goals as goal

pub returns-in_err-found-clause-fault : goal.returns-in_err-found-clause-fault
returns-in_err-found-clause-fault c =
    let p = err_from_is_err_and c.from_residual.result c.from_residual.ensures.1
    in rw (p.1, p.2)
    (λ other. fault_here (map placed_of c.loop-rest.items.items) (tokens_of c.args.text.now) c.loop-rest.place c.loop-rest.rest.now c.in_err-found.field-0.0 (search (rules, c.loop-rest-test.ensures))
    c.loop-rest.invariant.whole c.loop-rest.invariant.sound c.in_err-found.ensures.fault)

-- the tokens that stand first go from the rest to the front
pub loop-rest-preserved : goal.loop-rest-preserved
loop-rest-preserved c =
    let stands = c.in_ok-found.ensures.ok
    in let room = room_step c.loop-rest.place (slice_index c.loop-rest.rest.now 0) c.in_ok-found.found.len (length c.split_at.result.1.now) (length c.loop-rest.rest.now) (length c.args.text.now) c.behind-place.result
    c.behind-place.ensures stands.some c.split_at.ensures.back_len c.loop-rest.invariant.columns c.loop-rest.invariant.lines c.loop-rest.invariant.from
    in record {
      whole = whole_step (map placed_of c.loop-rest.items.items) (map placed_of c.add.new.items.items) (tokens_of c.args.text.now) c.loop-rest.place c.loop-rest.rest.now c.in_ok-found.found.token c.in_ok-found.found.len
          c.behind-place.result c.split_at.result.1.now (search (rules, c.loop-rest-test.ensures)) stands c.behind-place.ensures c.split_at.ensures.back c.in_ok-add.ensures.ok c.loop-rest.invariant.whole;
      sound = sound_step (map placed_of c.loop-rest.items.items) (map placed_of c.add.new.items.items) c.loop-rest.place c.loop-rest.rest.now c.in_ok-found.found.token c.in_ok-found.found.len stands c.in_ok-add.ensures.ok c.loop-rest.invariant.sound;
      end = end_step c.loop-rest.place c.loop-rest.rest.now c.in_ok-found.found.token c.in_ok-found.found.len c.behind-place.result (end_of c.args.text.now) c.split_at.result.1.now stands c.behind-place.ensures c.split_at.ensures.back c.loop-rest.invariant.end;
      columns = room.0;
      lines = room.1;
      from = room.2;
    }
