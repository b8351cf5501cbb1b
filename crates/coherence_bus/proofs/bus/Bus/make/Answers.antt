use Rattle.coherence_bus.proofs.Starting.{started}
use Rattle.coherence_bus.proofs.bus.Bus.make.Goals as goal

pub invariant_of-result : goal.invariant_of-result
invariant_of-result c =
    let t = started c.laws.ensures c.args.spec.now c.args.image.now c.in_ok-caches.caches.items c.in_ok-llc.llc c.in_ok-vaults.vaults c.requires c.in_ok-caches.ensures c.in_ok-llc.ensures c.in_ok-vaults.ensures
    in record { sizes = t.sizes; coheres = t.coheres }

pub returns : goal.returns
returns c =
    let t = started c.laws.ensures c.args.spec.now c.args.image.now c.in_ok-caches.caches.items c.in_ok-llc.llc c.in_ok-vaults.vaults c.requires c.in_ok-caches.ensures c.in_ok-llc.ensures c.in_ok-vaults.ensures
    in t.shows
