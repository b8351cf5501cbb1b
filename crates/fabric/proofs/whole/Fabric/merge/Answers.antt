use Rattle.std.proofs.Common.{◌≡◌, ◌++◌, ◌∷◌, [], List, length, sym, ◌∙◌, ap, subst, arith}
use Rattle.pei_types.specs.declared.events.Event.{Event}
use Rattle.pei_types.specs.declared.machines.MachineSpec.{MachineSpec}
use Rattle.pei_types.specs.Program.{Contents}
use Rattle.bank_laws.specs.Logs.{AreStamped, merged}
use Rattle.fabric.specs.Banks.{BankHistory, banks_at_start}
use Rattle.fabric.specs.History.{History}
use Rattle.fabric.specs.Merge.{CanMerge, logs_of}
use Rattle.fabric.proofs.Splits.{all_banks, all_empty, first_bank, first_fresh, gathered_all}
use Rattle.fabric.proofs.whole.Fabric.merge.Goals as goal

pub opened-section-requires : goal.opened-section-requires
opened-section-requires c =
    ap (λ (v : BankHistory). v.bank) (first_bank c.requires.0 c.requires.1 c.requires.2 c.args.banks c.take_bank.result c.take_bank.new.banks c.requires.3 c.take_bank.ensures)

pub gather-requires : goal.gather-requires
gather-requires c =
    let fresh = first_fresh c.requires.0 c.requires.1 c.requires.2 c.args.banks c.take_bank.result c.take_bank.new.banks c.opened-section.result.1 c.requires.3 c.take_bank.ensures c.opened-section.ensures.reserve
    in let all = all_banks c.requires.0 c.requires.1 c.requires.2 c.args.banks c.take_bank.result c.take_bank.new.banks c.requires.3 c.take_bank.ensures
    in let items = ap length (c.push_reserved.ensures.items ∙ ap (λ (xs : List BankHistory). xs ++ c.opened-section.result.0 ∷ []) fresh.banks)
    in record { room = omega (arith, items, all, fresh.room, c.push_reserved.ensures.capacity) }

pub replay_all-requires-clause-merge : goal.replay_all-requires-clause-merge
replay_all-requires-clause-merge c =
    let fresh = first_fresh c.requires.0 c.requires.1 c.requires.2 c.args.banks c.take_bank.result c.take_bank.new.banks c.opened-section.result.1 c.requires.3 c.take_bank.ensures c.opened-section.ensures.reserve
    in let items : c.gather.new.sections.items ≡ c.args.banks = gathered_all c.args.banks c.opened-section.result.1.banks.items c.push_reserved.new.self.items c.gather.new.sections.items c.take_bank.result c.opened-section.result.0 c.take_bank.new.banks c.take_bank.ensures c.opened-section.ensures.section fresh.banks c.push_reserved.ensures.items c.gather.ensures.items
    in (
      c.requires.2,
      subst (λ (m : MachineSpec). CanMerge m c.opened-section.result.1.image.value c.requires.2 c.deref.result.now) (sym fresh.machine)
          (subst (λ (image : Contents). CanMerge c.requires.0 image c.requires.2 c.deref.result.now) (sym fresh.image)
          (subst (CanMerge c.requires.0 c.requires.1 c.requires.2) (sym (c.deref.ensures.value ∙ items)) c.requires.3)),
    )

pub invariant_of-result : goal.invariant_of-result
invariant_of-result c =
    let fresh = first_fresh c.requires.0 c.requires.1 c.requires.2 c.args.banks c.take_bank.result c.take_bank.new.banks c.opened-section.result.1 c.requires.3 c.take_bank.ensures c.opened-section.ensures.reserve
    in let items : c.gather.new.sections.items ≡ c.args.banks = gathered_all c.args.banks c.opened-section.result.1.banks.items c.push_reserved.new.self.items c.gather.new.sections.items c.take_bank.result c.opened-section.result.0 c.take_bank.new.banks c.take_bank.ensures c.opened-section.ensures.section fresh.banks c.push_reserved.ensures.items c.gather.ensures.items
    in let given : c.deref.result.now ≡ c.args.banks = c.deref.ensures.value ∙ items
    in let machine : c.replay_all.new.parts.machine ≡ c.requires.0 = c.replay_all.ensures.machine ∙ fresh.machine
    in let events : c.replay_all.new.journal.events ≡ merged c.requires.2 (logs_of c.args.banks) =
    c.replay_all.ensures.events c.requires.2 (subst (λ (xs : List BankHistory). AreStamped c.requires.2 (logs_of xs)) (sym given) c.requires.3.stamps)
    ∙ ap (λ (xs : List BankHistory). merged c.requires.2 (logs_of xs)) given
    in let banks = ap (λ (m : MachineSpec). m.banks) machine
    in record {
      keeps = c.replay_all.ensures.keeps;
      ready = λ none.
          items
          ∙ sym (all_empty c.laws.ensures c.requires.2 c.args.banks c.requires.3.stamps (sym events ∙ none))
          ∙ c.requires.3.all
          ∙ ap (λ (m : MachineSpec). banks_at_start m c.requires.1) (sym machine)
          ∙ ap (λ (image : Contents). banks_at_start c.replay_all.new.parts.machine image) (sym fresh.image);
      capacious = omega (arith, banks, fresh.room, c.push_reserved.ensures.capacity, c.gather.ensures.capacity);
    }

pub returns : goal.returns
returns c m image n can =
    let fresh = first_fresh m image n c.args.banks c.take_bank.result c.take_bank.new.banks c.opened-section.result.1 can c.take_bank.ensures c.opened-section.ensures.reserve
    in let items : c.gather.new.sections.items ≡ c.args.banks = gathered_all c.args.banks c.opened-section.result.1.banks.items c.push_reserved.new.self.items c.gather.new.sections.items c.take_bank.result c.opened-section.result.0 c.take_bank.new.banks c.take_bank.ensures c.opened-section.ensures.section fresh.banks c.push_reserved.ensures.items c.gather.ensures.items
    in let given : c.deref.result.now ≡ c.args.banks = c.deref.ensures.value ∙ items
    in let machine : c.replay_all.new.parts.machine ≡ m = c.replay_all.ensures.machine ∙ fresh.machine
    in let events : c.replay_all.new.journal.events ≡ merged n (logs_of c.args.banks) =
    c.replay_all.ensures.events n (subst (λ (xs : List BankHistory). AreStamped n (logs_of xs)) (sym given) can.stamps)
    ∙ ap (λ (xs : List BankHistory). merged n (logs_of xs)) given
    in let as_history : MachineSpec → Contents → List Event → History = λ k start es. record { machine = k; image = start; journal = es }
    in ap (λ (k : MachineSpec). as_history k c.opened-section.result.1.image.value c.replay_all.new.journal.events) machine
    ∙ ap (λ (start : Contents). as_history m start c.replay_all.new.journal.events) fresh.image
    ∙ ap (λ (es : List Event). as_history m image es) events
