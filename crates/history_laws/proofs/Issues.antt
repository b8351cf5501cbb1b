-- A journal at the issue of a PEI.
use Rattle.std.proofs.Common.{◌≡◌, ◌⊎◌, inl, inr, ℕ, suc, ◌+◌, ◌<◌, Bool, true, false, not, ◌&&◌, ◌||◌, cond, List, [], ◌∷◌, ◌++◌, take, Some, refl, sym, ◌∙◌, ap, subst, arith, ◌==◌}
use Rattle.std.specs.List.{list_any, before_first, position_or_len, cons_option}
use Rattle.pei_types.specs.declared.identifiers.Actor.{Actor}
use Rattle.pei_types.specs.declared.identifiers.PeiId.{PeiId}
use Rattle.pei_types.specs.declared.events.Event.{Event}
use Rattle.pei_types.specs.declared.events.EventKind.{EventKind}
use Rattle.pei_types.specs.declared.events.EventKind.TheVariants as event
use Rattle.pei_types.specs.Blocks.{same_core}
use Rattle.pei_types.specs.History.{Pei, issued_peis, pei_issued_by, before_issue}
use Rattle.std.proofs.lemmas.List.Elements.{filter_map-append}
use Rattle.history_laws.specs.Members.{In}
use Rattle.history_laws.proofs.Entering.{rising}
use Rattle.history_laws.proofs.Lists.{each_of}
use mathlib.Core.Path.{fun_ext}
use Rattle.std.proofs.lemmas.Bool.{or_right}
use Rattle.pei_types.proofs.Identities.{same_pei_refl, same_pei_is}

-- whether an event issues this PEI
abbrev pub issues_kind : PeiId → Actor → EventKind → Bool
issues_kind id a (event.Issue seq lane o block operands) = same_core a.core id.core && (seq == id.seq)
issues_kind id a _ = false

abbrev pub issues_pei : PeiId → Event → Bool
issues_pei id e = issues_kind id e.actor e.kind

first_agree : (p q : Event → Bool) (journal : List Event) → ((a : Actor) (kind : EventKind) → p (record { actor = a; kind = kind }) ≡ q (record { actor = a; kind = kind })) → before_first p journal ≡ before_first q journal
first_agree p q journal h = ap (λ t. before_first t journal) (fun_ext (λ e. h e.actor e.kind))

before_issue_is : (id : PeiId) (journal : List Event) → before_issue id journal ≡ before_first (issues_pei id) journal
before_issue_is id journal = first_agree _ (issues_pei id) journal (λ a. elim [ event.Issue seq lane o block operands ↦ refl | _ ↦ refl ])

take_one_more : (n : ℕ) (x : Event) (xs : List Event) → take (1 + n) (x ∷ xs) ≡ x ∷ take n xs
take_one_more n x xs = ap (λ k. take k (x ∷ xs)) one
  where
    one : 1 + n ≡ suc n
    one = omega arith

-- a journal is what stands before the first event that passes, that event, and the rest
split_first : (t : Event → Bool) (journal : List Event) → list_any t journal ≡ true → (e : Event) × (rest : List Event) × (journal ≡ before_first t journal ++ e ∷ rest) × (t e ≡ true)
split_first t [] h = absurd (cc h)
split_first t (x ∷ xs) h = by (t x) refl h (split_first t xs)
  where
    by : (b : Bool) → t x ≡ b → (b || list_any t xs) ≡ true → (list_any t xs ≡ true → (e : Event) × (rest : List Event) × (xs ≡ before_first t xs ++ e ∷ rest) × (t e ≡ true)) → (e : Event) × (rest : List Event) × (x ∷ xs ≡ take (cond (not (t x)) (1 + position_or_len t xs) 0) (x ∷ xs) ++ e ∷ rest) × (t e ≡ true)
    by true q k rest = (x, xs, rw q refl, q)
    by false q k rest =
        let r = rest k
        in (r.0, r.1, rw (q, take_one_more (position_or_len t xs) x xs) (ap (λ zs. x ∷ zs) r.2), r.3)

issues_step : (a : Actor) (kind : EventKind) (ps : List Pei) (p : Pei) → In p (cons_option (pei_issued_by a kind) ps) → (issues_kind p.id a kind ≡ true) ⊎ In p ps
issues_step a (event.Issue seq lane o b operands) ps p (inl e) = inl (rw e (same_pei_refl (record { core = a.core; seq = seq })))
issues_step a (event.Issue seq lane o b operands) ps p (inr i) = inr i
issues_step a _ ps p i = inr i

issued_somewhere : (journal : List Event) (p : Pei) → In p (issued_peis journal) → list_any (issues_pei p.id) journal ≡ true
issued_somewhere [] p i = absurd i
issued_somewhere (e ∷ events) p i = by (issues_step e.actor e.kind (issued_peis events) p i) (issued_somewhere events p)
  where
    by : (issues_kind p.id e.actor e.kind ≡ true) ⊎ In p (issued_peis events) → (In p (issued_peis events) → list_any (issues_pei p.id) events ≡ true) → (issues_pei p.id e || list_any (issues_pei p.id) events) ≡ true
    by (inl h) rest = rw h refl
    by (inr j) rest = or_right (issues_pei p.id e) (list_any (issues_pei p.id) events) (rest j)

issues_it : (id : PeiId) (a : Actor) (kind : EventKind) → issues_kind id a kind ≡ true → (q : Pei) × (pei_issued_by a kind ≡ Some q) × (q.id ≡ id)
issues_it id a (event.Issue seq lane o b operands) h = (record { id = record { core = a.core; seq = seq }; lane = lane; op = o; block = b; operands = operands }, refl, same_pei_is (record { core = a.core; seq = seq }) id h)
issues_it id a _ h = absurd (cc h)

-- in a list of rising numbers those before one of the same core are less
rising_split : (ps qs : List Pei) (p q : Pei) → rising (ps ++ q ∷ qs) → In p ps → same_core p.id.core q.id.core ≡ true → p.id.seq < q.id.seq
rising_split [] qs p q r i = absurd i
rising_split (x ∷ ps) qs p q r (inl e) =
    subst (λ z. same_core z.id.core q.id.core ≡ true → z.id.seq < q.id.seq) (sym e)
    (each_of (λ z. same_core x.id.core z.id.core ≡ true → x.id.seq < z.id.seq) (ps ++ q ∷ qs) q r.0 (here ps))
  where
    here : (zs : List Pei) → In q (zs ++ q ∷ qs)
    here [] = inl refl
    here (z ∷ zs) = inr (here zs)
rising_split (x ∷ ps) qs p q r (inr i) = rising_split ps qs p q r.1 i

-- The journal at the issue of a PEI: what stood before it is a part of the journal, and each PEI of the core that was
-- issued there has a lower number.
pub record IssuedAt (journal : List Event) (id : PeiId) : Type 0 where
  pub rest : List Event
  pub split : journal ≡ before_issue id journal ++ rest
  pub lower : (p : Pei) → In p (issued_peis (before_issue id journal)) → same_core p.id.core id.core ≡ true → p.id.seq < id.seq

pub issued_at : (journal : List Event) (p : Pei) → rising (issued_peis journal) → In p (issued_peis journal) → IssuedAt journal p.id
issued_at journal p r i =
    let found = split_first (issues_pei p.id) journal (issued_somewhere journal p i)
    in let it = issues_it p.id found.0.actor found.0.kind found.3
    in let whole : journal ≡ before_issue p.id journal ++ found.0 ∷ found.1 = found.2 ∙ ap (λ zs. zs ++ found.0 ∷ found.1) (sym (before_issue_is p.id journal))
    in let parts : issued_peis journal ≡ issued_peis (before_issue p.id journal) ++ it.0 ∷ issued_peis found.1 =
    ap issued_peis whole ∙ filter_map-append (λ x. pei_issued_by x.actor x.kind) (before_issue p.id journal) (found.0 ∷ found.1)
    ∙ ap (λ o. issued_peis (before_issue p.id journal) ++ cons_option o (issued_peis found.1)) it.1
    in record {
      rest = found.0 ∷ found.1;
      split = whole;
      lower =
          λ q j. subst (λ d. same_core q.id.core d.core ≡ true → q.id.seq < d.seq) it.2
          (rising_split (issued_peis (before_issue p.id journal)) (issued_peis found.1) q it.0 (subst rising parts r) j);
    }
