-- Laws of cells. No other file knows where the parts of a cell lie.
use Rattle.std.specs.Prelude.{◌≡◌, ◌∷◌, ◌++◌, ◌+◌, ◌*◌, ◌-◌, ◌<◌, ◌≤◌}
use Rattle.store.specs.Prelude.{sym, ap, ◌∙◌, true, List, append-nil, append_assoc, ℕ, zero, suc, arith, length, set, replicate, length-set, replicate-append-replicate, get_or-set_same, get_or-set_other}
use Rattle.rules.specs.Store.{next_of, set_next, count_of, set_count, good_count, set_body_byte, linked, fresh_store}
use Rattle.rules.proofs.Lists.{set_past}
use Rattle.rules.proofs.Spans.{inside, least, most}
use Rattle.store.specs.Lent.{Sized}

-- A good count is from 1 to 30
pub good_least : (n : ℕ) → good_count n ≡ true → 1 ≤ n
unfolding good_count
good_least n = least 1 n 30

pub good_most : (n : ℕ) → good_count n ≡ true → n ≤ 30
unfolding good_count
good_most n = most 1 n 30

pub good_between : (n : ℕ) → 1 ≤ n → n ≤ 30 → good_count n ≡ true
unfolding good_count
good_between n = inside 1 n 30

-- A store keeps its length
pub length-set_next : (st : List ℕ) (c v : ℕ) → length (set_next st c v) ≡ length st
unfolding set_next
length-set_next st c v = length-set st (32 * c) v

pub length-set_body_byte : (st : List ℕ) (c i v : ℕ) → length (set_body_byte st c i v) ≡ length st
unfolding set_body_byte
length-set_body_byte st c i v = length-set st (32 * c + 2 + i) v

-- A count is what it was set to, and another part that is set does not change it
pub count-set_count : (st : List ℕ) (c v : ℕ) → Sized st → c < 256 → count_of (set_count st c v) c ≡ v
unfolding count_of set_count
count-set_count st c v e h = get_or-set_same st (32 * c + 1) v 0 (omega arith)

pub count-set_next : (st : List ℕ) (c v d : ℕ) → count_of (set_next st c v) d ≡ count_of st d
unfolding count_of set_next
count-set_next st c v d = get_or-set_other st (32 * c) (32 * d + 1) v 0 (omega arith)

pub count-set_body_byte : (st : List ℕ) (c i v d : ℕ) → i < 30 → count_of (set_body_byte st c i v) d ≡ count_of st d
unfolding count_of set_body_byte
count-set_body_byte st c i v d h = get_or-set_other st (32 * c + 2 + i) (32 * d + 1) v 0 (omega arith)

-- A count or a body byte that is set does not change a next cell
pub next-set_count : (st : List ℕ) (c v d : ℕ) → next_of (set_count st c v) d ≡ next_of st d
unfolding next_of set_count
next-set_count st c v d = get_or-set_other st (32 * c + 1) (32 * d) v 0 (omega arith)

pub next-set_body_byte : (st : List ℕ) (c i v d : ℕ) → i < 30 → next_of (set_body_byte st c i v) d ≡ next_of st d
unfolding next_of set_body_byte
next-set_body_byte st c i v d h = get_or-set_other st (32 * c + 2 + i) (32 * d) v 0 (omega arith)

-- The store with the cells up to cell k linked and the rest clear
unfoldable pub linked_to : ℕ → List ℕ
linked_to k = linked (suc k) 0 ++ replicate (32 * (255 - k)) 0

-- A clear cell after n + 1 linked cells joins them
link_more : (n c m v : ℕ) → v ≡ suc (c + n) → set (linked (suc n) c ++ replicate (32 + m) 0) (32 * n) v ≡ linked (suc (suc n)) c ++ replicate m 0
unfolding linked
link_more zero c m v e =
    let cell : List ℕ = suc c ∷ replicate 31 0 in
    let first : v ≡ suc c = omega arith in
    ap (λ (w : ℕ). w ∷ replicate 31 0 ++ replicate (32 + m) 0) first
    ∙ ap (λ (s : List ℕ). cell ++ s) (sym (replicate-append-replicate 32 m 0))
    ∙ sym (append_assoc cell (replicate 32 0) (replicate m 0))
link_more (suc n) c m v e =
    let cell : List ℕ = suc c ∷ replicate 31 0 in
    let rest : List ℕ = linked (suc n) (suc c) in
    ap (λ (s : List ℕ). set s (32 * suc n) v) (append_assoc cell rest (replicate (32 + m) 0))
    ∙ set_past cell (rest ++ replicate (32 + m) 0) (32 * suc n) (32 * n) v (omega arith)
    ∙ ap (λ (s : List ℕ). cell ++ s) (link_more n (suc c) m v (omega arith))
    ∙ sym (append_assoc cell (linked (suc (suc n)) (suc c)) (replicate m 0))

pub linked_none : replicate 8192 0 ≡ linked_to 0
unfolding linked_to linked
linked_none = sym (replicate-append-replicate 32 8160 0)

pub linked_more : (k : ℕ) → k < 255 → set_next (linked_to k) k (k + 1) ≡ linked_to (k + 1)
unfolding linked_to set_next
linked_more k h =
    let m = 32 * (255 - (k + 1)) in
    let more : 32 * (255 - k) ≡ 32 + m = omega arith in
    let all : suc (suc k) ≡ suc (k + 1) = omega arith in
    ap (λ (z : ℕ). set (linked (suc k) 0 ++ replicate z 0) (32 * k) (k + 1)) more
    ∙ link_more k 0 m (k + 1) (omega arith)
    ∙ ap (λ (j : ℕ). linked j 0 ++ replicate m 0) all

pub linked_all : linked_to 255 ≡ fresh_store
unfolding linked_to fresh_store
linked_all = append-nil (linked 256 0)
