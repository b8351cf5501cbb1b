use Rattle.std.proofs.Common.{◌≡◌, [], refl}
use Rattle.fabric.proofs.whole.Fabric.split.Goals as goal

pub split_all-requires : goal.split_all-requires
split_all-requires c =
    let i = c.self.inside
    in let none : i.journal.events ≡ [] = rw (← c.self.view_is) at c.requires
    in (
      i.parts.machine,
      i.image.value,
      record {
        machine = refl;
        image = refl;
        keeps = c.self.invariant.keeps;
        empty = none;
        banks = c.self.invariant.ready none;
        room = c.self.invariant.capacious;
      },
    )
