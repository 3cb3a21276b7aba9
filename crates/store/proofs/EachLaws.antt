-- Laws of consecutive bytes: a run goes on by a byte and by a run, and may be seen as a run of other steps.
use Rattle.std.specs.Prelude.{◌≡◌, ◌+◌, ◌<◌, ◌≤◌}
use Rattle.store.specs.Prelude.{List, ℕ, zero, suc, add-one, arith, take, drop, get_or}
use Rattle.std.proofs.lemmas.List.{get_or-take, get_or-drop}
use Rattle.store.specs.Each.{Each, none, more}

module _ {X : Type 0} {Step : ℕ → X → X → Type 0} (bytes : List ℕ) (from : ℕ) {x : X} (n : ℕ) where
  pub each_on : (y z : X) → Each Step bytes from x n y → Step (get_or bytes (from + n) 0) y z → Each Step bytes from x (n + 1) z
  each_on y z d e = rw add-one (more d e)

  pub each_join : (m : ℕ) (y z : X) → Each Step bytes from x n y → Each Step bytes (from + n) y m z → Each Step bytes from x (n + m) z
  each_join zero y z d none =
      let k : n + 0 ≡ n = omega arith in
      rw k d
  each_join (suc m) y z d (more {y = v} e q) =
      let k : n + suc m ≡ suc (n + m) = omega arith in
      let j : from + n + m ≡ from + (n + m) = omega arith in
      rw k (more (each_join m y v d e) (rw j at q))

pub each_as : {X Y : Type 0} {Step : ℕ → X → X → Type 0} {Other : ℕ → Y → Y → Type 0} (view : X → Y)
    → ((b : ℕ) (x y : X) → Step b x y → Other b (view x) (view y))
    → (bytes : List ℕ) (from n : ℕ) (x y : X) → Each Step bytes from x n y → Each Other bytes from (view x) n (view y)
each_as view h bytes from zero x y none = none
each_as view h bytes from (suc n) x y (more {y = v} d e) = more (each_as view h bytes from n x v d) (h (get_or bytes (from + n) 0) v y e)

-- A run over the first bytes is a run over all, and one over the bytes from a place on is a run from there on
pub first_at : (bytes : List ℕ) (most k : ℕ) → k < most → get_or (take most bytes) (0 + k) 0 ≡ get_or bytes (0 + k) 0
first_at bytes most k h = get_or-take most bytes (0 + k) 0 (omega arith)

pub rest_at : (bytes : List ℕ) (from k : ℕ) → get_or (drop from bytes) (0 + k) 0 ≡ get_or bytes (from + k) 0
rest_at bytes from k =
    let i : from + (0 + k) ≡ from + k = omega arith in
    rw (← i) (get_or-drop from bytes (0 + k) 0)

module _ {X : Type 0} {Step : ℕ → X → X → Type 0} (bytes : List ℕ) {x : X} where
  pub each_first : (most n : ℕ) (y : X) → n ≤ most → Each Step (take most bytes) 0 x n y → Each Step bytes 0 x n y
  each_first most zero y h none = none
  each_first most (suc n) y h (more {y = v} d e) =
      let same = first_at bytes most n (omega arith) in
      more (each_first most n v (omega arith) d) (rw same at e)

  pub each_rest : (from n : ℕ) (y : X) → Each Step (drop from bytes) 0 x n y → Each Step bytes from x n y
  each_rest from zero y none = none
  each_rest from (suc n) y (more {y = v} d e) =
      let same = rest_at bytes from n in
      more (each_rest from n v d) (rw same at e)

-- and over a part
pub each_part : {X : Type 0} {Step : ℕ → X → X → Type 0} (bytes : List ℕ) {x : X} (from most n : ℕ) (y : X) → n ≤ most → Each Step (take most (drop from bytes)) 0 x n y → Each Step bytes from x n y
each_part bytes from most n y h d = each_rest bytes from n y (each_first (drop from bytes) most n y h d)

-- A run from the first byte on goes on by a byte, and by a run over a part
module _ {X : Type 0} {Step : ℕ → X → X → Type 0} (bytes : List ℕ) {x : X} (n : ℕ) (y z : X) (d : Each Step bytes 0 x n y) where
  pub then_byte : Step (get_or bytes n 0) y z → Each Step bytes 0 x (n + 1) z
  then_byte e =
      let same : 0 + n ≡ n = omega arith in
      each_on bytes 0 n y z d (rw same e)

  pub then_part : (most m : ℕ) → m ≤ most → Each Step (take most (drop n bytes)) 0 y m z → Each Step bytes 0 x (n + m) z
  then_part most m h e =
      let same : 0 + n ≡ n = omega arith in
      each_join bytes 0 n m y z d (rw same (each_part bytes n most m z h e))
