use Rattle.std.proofs.Common.{[], ◌∷◌, refl}
use Rattle.trace_check.proofs.Starting.{legal_start, state_start, memory_start, cores_start}
use Rattle.trace_check.proofs.checker.Checker.make.Goals as goal

pub returns : goal.returns
returns c p =
    let m = c.args.spec.now
    in let image = c.args.image.now
    in record {
      machine = refl;
      legal = legal_start p m image;
      state = state_start m image c.in_ok-bus.bus c.in_ok-inflight.inflight c.in_ok-monitor.monitor c.in_ok-bus.ensures c.in_ok-inflight.ensures c.in_ok-monitor.ensures;
      memory = memory_start m image c.in_ok-bus.bus c.in_ok-bus.ensures;
      cores = cores_start p m image (c.make-4.result ∷ c.make-5.result ∷ c.make-6.result ∷ c.make-7.result ∷ c.make-8.result ∷ c.make-9.result ∷ c.make-10.result ∷ c.make-11.result ∷ []) (c.make-4.ensures, (c.make-5.ensures, (c.make-6.ensures, (c.make-7.ensures, (c.make-8.ensures, (c.make-9.ensures, (c.make-10.ensures, (c.make-11.ensures, tt))))))));
      ended = refl;
    }
