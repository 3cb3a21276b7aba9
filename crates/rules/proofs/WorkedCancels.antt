-- Pages of 02, 4/13, worked by hand: a 1/8 from the page, in bodies, definitions, names, rows and columns
use Rattle.std.specs.Prelude.{◌+◌, ◌*◌, ◌/◌, ◌≡◌, ◌∷◌, ◌++◌}
use Rattle.rules.specs.Prelude.{ℕ, zero, suc, refl, List, [], map, get_or, drop, length, replicate}
use Rattle.rules.specs.Step.{State}
use Rattle.rules.specs.Reading.{undivided}
use Rattle.rules.specs.Calls.{number_of, Terms, with_budget, fresh_state, feed, end}
use Rattle.rules.specs.Expansion.{expansion, end_page, all_records, kept_for}
use Rattle.rules.proofs.Compute.{rules}

abbrev most : Terms
most = with_budget 4294967295

-- Accepted pages: the steps, of each record kind, code and x0, and the expansion

record Worked : Type 0 where
  page : List ℕ
  steps : ℕ
  marks : List (List ℕ)
  expanded : List ℕ

marks_of : ℕ → List ℕ → List (List ℕ)
marks_of zero bs = []
marks_of (suc n) bs =
    (get_or bs 0 0 ∷ get_or bs 7 0 ∷ (get_or bs 8 0 + 256 * (get_or bs 9 0 + 256 * (get_or bs 10 0 + 256 * get_or bs 11 0))) ∷ []) ∷ marks_of n (drop 40 bs)

abbrev read : List ℕ → Worked
read page =
    let bs = all_records most page in
    record { page = page; steps = (end_page most page).state.session.steps; marks = marks_of (length bs / 40) bs; expanded = expansion most page }

worked : List Worked
worked =
    -- A page's own 1/8 only writes its record
    record {
      page = 65 ∷ 24 ∷ 66 ∷ [];
      steps = 3;
      marks = (6 ∷ 65 ∷ 0 ∷ []) ∷ (7 ∷ 24 ∷ 53687040 ∷ []) ∷ (6 ∷ 66 ∷ 53687040 ∷ []) ∷ [];
      expanded = 65 ∷ 24 ∷ 66 ∷ [];
    }
    -- In a body: what is left of it is not read, and not part of the expansion; the 1/8 is
    ∷ record {
      page = 27 ∷ 42 ∷ 122 ∷ 27 ∷ 64 ∷ 33 ∷ 65 ∷ 24 ∷ 66 ∷ 27 ∷ 69 ∷ 25 ∷ 33 ∷ 67 ∷ [];
      steps = 16;
      marks = (6 ∷ 65 ∷ 0 ∷ []) ∷ (7 ∷ 24 ∷ 53687040 ∷ []) ∷ (6 ∷ 67 ∷ 53687040 ∷ []) ∷ [];
      expanded = 27 ∷ 42 ∷ 122 ∷ 27 ∷ 64 ∷ 33 ∷ 65 ∷ 24 ∷ 66 ∷ 27 ∷ 69 ∷ 65 ∷ 24 ∷ 67 ∷ [];
    }
    -- Every body is left, not the innermost alone
    ∷ record {
      page = 27 ∷ 42 ∷ 122 ∷ 27 ∷ 64 ∷ 33 ∷ 24 ∷ 65 ∷ 27 ∷ 69 ∷ 27 ∷ 64 ∷ 34 ∷ 25 ∷ 33 ∷ 66 ∷ 27 ∷ 69 ∷ 27 ∷ 64 ∷ 35 ∷ 25 ∷ 34 ∷
          67 ∷ 27 ∷ 69 ∷ 25 ∷ 35 ∷ 68 ∷ [];
      steps = 34;
      marks = (7 ∷ 24 ∷ 0 ∷ []) ∷ (6 ∷ 68 ∷ 0 ∷ []) ∷ [];
      expanded = 27 ∷ 42 ∷ 122 ∷ 27 ∷ 64 ∷ 33 ∷ 24 ∷ 65 ∷ 27 ∷ 69 ∷ 27 ∷ 64 ∷ 34 ∷ 25 ∷ 33 ∷ 66 ∷ 27 ∷ 69 ∷ 27 ∷ 64 ∷ 35 ∷ 25 ∷
          34 ∷ 67 ∷ 27 ∷ 69 ∷ 24 ∷ 68 ∷ [];
    }
    -- as the last byte of a body too
    ∷ record {
      page = 27 ∷ 42 ∷ 122 ∷ 27 ∷ 64 ∷ 33 ∷ 65 ∷ 24 ∷ 27 ∷ 69 ∷ 27 ∷ 64 ∷ 34 ∷ 25 ∷ 33 ∷ 66 ∷ 27 ∷ 69 ∷ 25 ∷ 34 ∷ 67 ∷ [];
      steps = 25;
      marks = (6 ∷ 65 ∷ 0 ∷ []) ∷ (7 ∷ 24 ∷ 53687040 ∷ []) ∷ (6 ∷ 67 ∷ 53687040 ∷ []) ∷ [];
      expanded = 27 ∷ 42 ∷ 122 ∷ 27 ∷ 64 ∷ 33 ∷ 65 ∷ 24 ∷ 27 ∷ 69 ∷ 27 ∷ 64 ∷ 34 ∷ 25 ∷ 33 ∷ 66 ∷ 27 ∷ 69 ∷ 65 ∷ 24 ∷ 67 ∷ [];
    }
    -- at the end of the page: nothing is left to read
    ∷ record {
      page = 27 ∷ 42 ∷ 122 ∷ 27 ∷ 64 ∷ 33 ∷ 24 ∷ 65 ∷ 27 ∷ 69 ∷ 25 ∷ 33 ∷ [];
      steps = 13;
      marks = (7 ∷ 24 ∷ 0 ∷ []) ∷ [];
      expanded = 27 ∷ 42 ∷ 122 ∷ 27 ∷ 64 ∷ 33 ∷ 24 ∷ 65 ∷ 27 ∷ 69 ∷ 24 ∷ [];
    }
    -- It closes the open command
    ∷ record {
      page = 27 ∷ 42 ∷ 122 ∷ 27 ∷ 64 ∷ 33 ∷ 24 ∷ 65 ∷ 27 ∷ 69 ∷ 14 ∷ 52 ∷ 65 ∷ 65 ∷ 65 ∷ 65 ∷ 65 ∷ 65 ∷ 25 ∷ 33 ∷ 65 ∷ 65 ∷ 65 ∷
          7 ∷ [];
      steps = 25;
      marks = (5 ∷ 0 ∷ 0 ∷ []) ∷ (5 ∷ 0 ∷ 0 ∷ []) ∷ (5 ∷ 0 ∷ 0 ∷ []) ∷ (7 ∷ 24 ∷ 0 ∷ []) ∷ (7 ∷ 7 ∷ 0 ∷ []) ∷ [];
      expanded = 27 ∷ 42 ∷ 122 ∷ 27 ∷ 64 ∷ 33 ∷ 24 ∷ 65 ∷ 27 ∷ 69 ∷ 14 ∷ 52 ∷ 65 ∷ 65 ∷ 65 ∷ 65 ∷ 65 ∷ 65 ∷ 24 ∷ 65 ∷ 65 ∷ 65 ∷ 7 ∷ [];
    }
    -- among characters
    ∷ record {
      page = 27 ∷ 42 ∷ 122 ∷ 27 ∷ 64 ∷ 33 ∷ 65 ∷ 66 ∷ 24 ∷ 13 ∷ 27 ∷ 69 ∷ 25 ∷ 33 ∷ 67 ∷ 7 ∷ [];
      steps = 19;
      marks = (6 ∷ 65 ∷ 0 ∷ []) ∷ (6 ∷ 66 ∷ 53687040 ∷ []) ∷ (7 ∷ 24 ∷ 107374080 ∷ []) ∷ (6 ∷ 67 ∷ 107374080 ∷ []) ∷ (7 ∷ 7 ∷ 161061120 ∷ []) ∷ [];
      expanded = 27 ∷ 42 ∷ 122 ∷ 27 ∷ 64 ∷ 33 ∷ 65 ∷ 66 ∷ 24 ∷ 13 ∷ 27 ∷ 69 ∷ 65 ∷ 66 ∷ 24 ∷ 67 ∷ 7 ∷ [];
    }
    -- It drops a waiting shift
    ∷ record {
      page = 27 ∷ 42 ∷ 122 ∷ 27 ∷ 64 ∷ 33 ∷ 29 ∷ 24 ∷ 65 ∷ 27 ∷ 69 ∷ 25 ∷ 33 ∷ 66 ∷ [];
      steps = 16;
      marks = (7 ∷ 24 ∷ 0 ∷ []) ∷ (6 ∷ 66 ∷ 0 ∷ []) ∷ [];
      expanded = 27 ∷ 42 ∷ 122 ∷ 27 ∷ 64 ∷ 33 ∷ 29 ∷ 24 ∷ 65 ∷ 27 ∷ 69 ∷ 24 ∷ 66 ∷ [];
    }
    -- and a sequence
    ∷ record {
      page = 27 ∷ 42 ∷ 122 ∷ 27 ∷ 64 ∷ 33 ∷ 27 ∷ 40 ∷ 24 ∷ 65 ∷ 27 ∷ 69 ∷ 25 ∷ 33 ∷ 66 ∷ [];
      steps = 18;
      marks = (7 ∷ 24 ∷ 0 ∷ []) ∷ (6 ∷ 66 ∷ 0 ∷ []) ∷ [];
      expanded = 27 ∷ 42 ∷ 122 ∷ 27 ∷ 64 ∷ 33 ∷ 27 ∷ 40 ∷ 24 ∷ 65 ∷ 27 ∷ 69 ∷ 24 ∷ 66 ∷ [];
    }
    -- In a definition it is stored, after ESC too
    ∷ record {
      page = 27 ∷ 42 ∷ 122 ∷ 27 ∷ 64 ∷ 33 ∷ 24 ∷ 27 ∷ 24 ∷ 27 ∷ 69 ∷ 25 ∷ 33 ∷ 65 ∷ [];
      steps = 15;
      marks = (7 ∷ 24 ∷ 0 ∷ []) ∷ (6 ∷ 65 ∷ 0 ∷ []) ∷ [];
      expanded = 27 ∷ 42 ∷ 122 ∷ 27 ∷ 64 ∷ 33 ∷ 24 ∷ 27 ∷ 24 ∷ 27 ∷ 69 ∷ 24 ∷ 65 ∷ [];
    }
    -- What a body does after its 1/8 is never reached, a call of itself included
    ∷ record {
      page = 27 ∷ 42 ∷ 122 ∷ 27 ∷ 64 ∷ 33 ∷ 65 ∷ 24 ∷ 25 ∷ 33 ∷ 27 ∷ 69 ∷ 25 ∷ 33 ∷ 25 ∷ 33 ∷ 66 ∷ [];
      steps = 21;
      marks = (6 ∷ 65 ∷ 0 ∷ []) ∷ (7 ∷ 24 ∷ 53687040 ∷ []) ∷ (6 ∷ 65 ∷ 53687040 ∷ []) ∷ (7 ∷ 24 ∷ 107374080 ∷ []) ∷ (6 ∷ 66 ∷ 107374080 ∷ []) ∷ [];
      expanded = 27 ∷ 42 ∷ 122 ∷ 27 ∷ 64 ∷ 33 ∷ 65 ∷ 24 ∷ 25 ∷ 33 ∷ 27 ∷ 69 ∷ 65 ∷ 24 ∷ 65 ∷ 24 ∷ 66 ∷ [];
    }
    -- Eight bodies run again after eight were left: the depth counts from 0
    ∷ record {
      page = 27 ∷ 42 ∷ 122 ∷ 27 ∷ 64 ∷ 33 ∷ 24 ∷ 27 ∷ 69 ∷ 27 ∷ 64 ∷ 34 ∷ 25 ∷ 33 ∷ 27 ∷ 69 ∷ 27 ∷ 64 ∷ 35 ∷ 25 ∷ 34 ∷ 27 ∷ 69 ∷
          27 ∷ 64 ∷ 36 ∷ 25 ∷ 35 ∷ 27 ∷ 69 ∷ 27 ∷ 64 ∷ 37 ∷ 25 ∷ 36 ∷ 27 ∷ 69 ∷ 27 ∷ 64 ∷ 38 ∷ 25 ∷ 37 ∷ 27 ∷ 69 ∷ 27 ∷ 64 ∷ 39 ∷
          25 ∷ 38 ∷ 27 ∷ 69 ∷ 27 ∷ 64 ∷ 40 ∷ 25 ∷ 39 ∷ 27 ∷ 69 ∷ 25 ∷ 40 ∷ 25 ∷ 40 ∷ 65 ∷ [];
      steps = 93;
      marks = (7 ∷ 24 ∷ 0 ∷ []) ∷ (7 ∷ 24 ∷ 0 ∷ []) ∷ (6 ∷ 65 ∷ 0 ∷ []) ∷ [];
      expanded = 27 ∷ 42 ∷ 122 ∷ 27 ∷ 64 ∷ 33 ∷ 24 ∷ 27 ∷ 69 ∷ 27 ∷ 64 ∷ 34 ∷ 25 ∷ 33 ∷ 27 ∷ 69 ∷ 27 ∷ 64 ∷ 35 ∷ 25 ∷ 34 ∷ 27 ∷
          69 ∷ 27 ∷ 64 ∷ 36 ∷ 25 ∷ 35 ∷ 27 ∷ 69 ∷ 27 ∷ 64 ∷ 37 ∷ 25 ∷ 36 ∷ 27 ∷ 69 ∷ 27 ∷ 64 ∷ 38 ∷ 25 ∷ 37 ∷ 27 ∷ 69 ∷ 27 ∷ 64 ∷
          39 ∷ 25 ∷ 38 ∷ 27 ∷ 69 ∷ 27 ∷ 64 ∷ 40 ∷ 25 ∷ 39 ∷ 27 ∷ 69 ∷ 24 ∷ 24 ∷ 65 ∷ [];
    }
    ∷ []

cancels_worked : map (λ x. read x.page) worked ≡ worked
unfolding rules marks_of worked
cancels_worked = refl

cancels_accepted : map (λ x. number_of (end_page most x.page).answer) worked ≡ replicate 12 0
unfolding rules worked
cancels_accepted = refl

-- The bytes stored for 2/1 by the page of definitions
cancels_stored : kept_for (end_page most (27 ∷ 64 ∷ 33 ∷ 24 ∷ 27 ∷ 24 ∷ 27 ∷ 69 ∷ [])).state 33 ≡ (24 ∷ 27 ∷ 24 ∷ [])
unfolding rules
cancels_stored = refl

-- Refused: as a name it is 4, as a row or column byte 5
cancels_refused :
    map (λ p. number_of (end_page most p).answer) ((27 ∷ 64 ∷ 24 ∷ []) ∷ (28 ∷ 24 ∷ []) ∷ (28 ∷ 64 ∷ 24 ∷ []) ∷ (31 ∷ 24 ∷ []) ∷ [])
    ≡ (4 ∷ 5 ∷ 5 ∷ 5 ∷ [])
unfolding rules
cancels_refused = refl

-- The name 2/1 defined as bytes, and so many names after it each as a call of the one before and a character
abbrev defined : List ℕ → ℕ → List ℕ
defined bs zero = (27 ∷ 42 ∷ 122 ∷ 27 ∷ 64 ∷ 33 ∷ []) ++ bs ++ (27 ∷ 69 ∷ [])
defined bs (suc n) = defined bs n ++ (27 ∷ 64 ∷ (n + 34) ∷ 25 ∷ (n + 33) ∷ 67 ∷ 27 ∷ 69 ∷ [])

-- The 1/8 counts as one step, and unread bytes as none: with as many steps for a budget the page is read, with one less it is 2
abbrev counted : ℕ → List ℕ
counted budget =
    let w = undivided (fresh_state (with_budget budget)) (defined (24 ∷ 65 ∷ []) 0 ++ (25 ∷ 33 ∷ 66 ∷ [])) in
    number_of w.answer ∷ w.state.session.steps ∷ w.state.session.bodies.depth ∷ []

cancels_counted : map counted (14 ∷ 13 ∷ 12 ∷ []) ≡ ((0 ∷ 14 ∷ 0 ∷ []) ∷ (2 ∷ 13 ∷ 0 ∷ []) ∷ (2 ∷ 12 ∷ 1 ∷ []) ∷ [])
unfolding rules
cancels_counted = refl

-- Eight bodies left between full answers: of each feed the number, the bytes consumed and written, the depth left, and the number of an
-- end call after it, which is 11 before the 1/8 and not after it
abbrev eight : List ℕ
eight = defined (65 ∷ 24 ∷ 66 ∷ []) 7 ++ (25 ∷ 40 ∷ 68 ∷ [])

fed : ℕ → State → List ℕ → List (List ℕ)
fed zero w piece = []
fed (suc n) w piece =
    let h = feed w piece (replicate 120 7) in
    (number_of h.answer ∷ h.consumed ∷ h.written ∷ h.state.session.bodies.depth ∷ number_of (end h.state (replicate 120 7)).answer ∷ [])
    ∷ fed n h.state (drop h.consumed piece)

cancels_fed :
    fed 3 (fresh_state most) eight ≡ ((1 ∷ 69 ∷ 40 ∷ 8 ∷ 11 ∷ []) ∷ (1 ∷ 0 ∷ 40 ∷ 0 ∷ 0 ∷ []) ∷ (0 ∷ 1 ∷ 40 ∷ 0 ∷ 0 ∷ []) ∷ [])
unfolding rules fed
cancels_fed = refl

-- Refused with 9, where it closes a polygon that has no vertex left: the bodies are not left
abbrev full : List ℕ
full = defined (24 ∷ []) 7 ++ (14 ∷ 52 ∷ replicate 1234 64) ++ (25 ∷ 40 ∷ [])

cancels_full : (let x = undivided (fresh_state most) full in number_of x.answer ∷ x.state.session.bodies.depth ∷ []) ≡ (9 ∷ 8 ∷ [])
unfolding rules
cancels_full = refl
