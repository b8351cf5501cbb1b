-- A reply that is taken in at all registers, one after another.
use Rattle.std.proofs.Common.{◌≡◌, ℕ, ◌+◌, ◌<◌, ◌≤◌, List, length, map, zip, replicate, Bool, true, false, ◌||◌, Option, Some, None, is_some, slice_index, slice_index_or, slice_set, refl, sym, ◌∙◌, ap, subst, below_more, arith}
use Rattle.std.proofs.lemmas.List.{ext_get_or, get_or-map, get_or-replicate, length-map, length-replicate, get_or-set_other, get_or-set_same}
use Rattle.std.proofs.lemmas.Slice.Zip.{get_or-zip, length-zip}
use Rattle.pei_types.specs.declared.operations.Reply.{Reply}
use Rattle.pei_types.specs.Core.{filled, wait_after, with_reply}
use Rattle.pei_types.specs.Core as core
use Rattle.core_exec.specs.declared.waits.Wait.{Wait}
use Rattle.core_exec.specs.Wait.{seen_wait}

-- what holds of each element below i, and of one that is written at i, holds of each below i + 1
pub below_more_set : {X : Type 0} (P : ℕ → X → Type 0) (ys : List X) (d x : X) (i : ℕ) → i < length ys → ((k : ℕ) → k < i → P k (slice_index_or ys k d)) → P i x → (k : ℕ) → k < i + 1 → P k (slice_index_or (slice_set ys i x) k d)
below_more_set P ys d x i within below here =
    below_more (λ k. P k (slice_index_or (slice_set ys i x) k d)) i
    (λ k h. subst (P k) (sym (get_or-set_other ys i k x d (omega arith))) (below k h))
    (subst (P i) (sym (get_or-set_same ys i x d within)) here)

-- what was left alone from i on is left alone behind a write at i
pub above_more_set : {X : Type 0} (xs ys : List X) (d x : X) (i : ℕ) → ((k : ℕ) → i ≤ k → slice_index_or ys k d ≡ slice_index_or xs k d) → (k : ℕ) → i + 1 ≤ k → slice_index_or (slice_set ys i x) k d ≡ slice_index_or xs k d
above_more_set xs ys d x i same k above = get_or-set_other ys i k x d (omega arith) ∙ same k (omega arith)

-- neither of two tests is true where their disjunction is not
pub neither : (a b : Bool) → a || b ≡ false → (a ≡ false) × (b ≡ false)
neither false false h = (refl, refl)
neither false true h = absurd (cc h)
neither true b h = absurd (cc h)

-- a register that does not wait is seen as such
pub seen_wait-from_is_some : (w : Option Wait) → is_some w ≡ false → seen_wait w ≡ None
seen_wait-from_is_some None h = refl
seen_wait-from_is_some (Some w) h = absurd (cc h)

-- a register after a reply
slice_index-with_reply : (seq : ℕ) (reply : Reply) (before : List ℕ) (waits : List (Option core.Wait)) (k : ℕ) → k < length before → k < length waits → slice_index (with_reply seq reply before waits) k ≡ filled seq reply (slice_index before k) (slice_index_or waits k None)
slice_index-with_reply seq reply before waits k b w =
    let d : ℕ × Option core.Wait = (0, None)
    in let f : ℕ × Option core.Wait → ℕ = λ v. filled seq reply v.0 v.1
    in get_or-map f (zip before waits) k d 0 (omega (arith, length-zip before waits)) ∙ ap f (get_or-zip before waits k d b w)

-- what one register waits for
slice_index_or-map-seen_wait : (waits : List (Option Wait)) (k : ℕ) → k < length waits → slice_index_or (map seen_wait waits) k None ≡ seen_wait (slice_index_or waits k None)
slice_index_or-map-seen_wait waits k h = get_or-map seen_wait waits k None None h

-- each register was filled, so all were
pub with_reply_all : (n seq : ℕ) (reply : Reply) (before after : List ℕ) (waits : List (Option Wait)) → length before ≡ n → length after ≡ n → length waits ≡ n → ((k : ℕ) → k < n → slice_index after k ≡ filled seq reply (slice_index before k) (seen_wait (slice_index_or waits k None))) → after ≡ with_reply seq reply before (map seen_wait waits)
with_reply_all n seq reply before after waits b a w each =
    let seen = map seen_wait waits
    in let many : length seen ≡ n = length-map waits seen_wait ∙ w
    in ext_get_or 0 after (with_reply seq reply before seen)
    (a ∙ sym (length-map (zip before seen) (λ (v : ℕ × Option core.Wait). filled seq reply v.0 v.1) ∙ length-zip before seen ∙ omega (arith, b, many)))
    (λ k h.
    each k (omega (arith, a, h))
    ∙ ap (filled seq reply (slice_index before k)) (sym (slice_index_or-map-seen_wait waits k (omega (arith, a, h, w))))
    ∙ sym (slice_index-with_reply seq reply before seen k (omega (arith, a, h, b)) (omega (arith, a, h, many))))

-- each wait was taken on, so all were
pub waits_after_all : (n seq : ℕ) (before after : List (Option Wait)) → length before ≡ n → length after ≡ n → ((k : ℕ) → k < n → seen_wait (slice_index_or after k None) ≡ wait_after seq (seen_wait (slice_index_or before k None))) → map seen_wait after ≡ map (wait_after seq) (map seen_wait before)
waits_after_all n seq before after b a each =
    let seen = map seen_wait before
    in let old : length seen ≡ n = length-map before seen_wait ∙ b
    in let new : length (map seen_wait after) ≡ n = length-map after seen_wait ∙ a
    in ext_get_or None (map seen_wait after) (map (wait_after seq) seen)
    (new ∙ sym (length-map seen (wait_after seq) ∙ old))
    (λ k h.
    slice_index_or-map-seen_wait after k (omega (arith, h, new, a))
    ∙ each k (omega (arith, h, new))
    ∙ ap (wait_after seq) (sym (slice_index_or-map-seen_wait before k (omega (arith, h, new, b))))
    ∙ sym (get_or-map (wait_after seq) seen k None None (omega (arith, h, new, old))))

-- no register waits, one by one and in all
pub no_wait_all : (n : ℕ) (waits : List (Option Wait)) → length waits ≡ n → ((k : ℕ) → k < n → seen_wait (slice_index_or waits k None) ≡ None) → map seen_wait waits ≡ replicate n None
no_wait_all n waits w each =
    let many : length (map seen_wait waits) ≡ n = length-map waits seen_wait ∙ w
    in ext_get_or None (map seen_wait waits) (replicate n None)
    (many ∙ sym (length-replicate n None))
    (λ k h.
    slice_index_or-map-seen_wait waits k (omega (arith, h, many, w))
    ∙ each k (omega (arith, h, many))
    ∙ sym (get_or-replicate n k None None (omega (arith, h, many))))
