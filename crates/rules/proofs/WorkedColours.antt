-- Pages of 02, 3/13, worked by hand: SET COLOUR in every mode, its data whole and cut short. The data 6/11 7/5 5/4 4/10 have the
-- three-tuples 101 011, 110 101, 010 100, 001 010, so green is 10110100, red 01101001 and blue 11010010
use Rattle.std.specs.Prelude.{◌≡◌, ◌∷◌, ◌++◌}
use Rattle.rules.specs.Prelude.{ℕ, refl, List, [], map, take}
use Rattle.rules.specs.Types.{Record}
use Rattle.rules.specs.Numbers.{origin}
use Rattle.rules.specs.Record.{bytes_of_all}
use Rattle.rules.specs.Calls.{number_of, colour, shade_values, Terms, with_budget}
use Rattle.rules.specs.Statements.{cut_after}
use Rattle.rules.specs.Expansion.{end_page, all_records}
use Rattle.rules.proofs.Compute.{rules}

-- What a page tells once end was called: number, green, red and blue of mode 0, those of map address 5, and the records
record Told : Type 0 where
  number : ℕ
  direct : List ℕ
  mapped : List ℕ
  records : List ℕ

record Worked : Type 0 where
  page : List ℕ
  told : Told

abbrev terms : Terms
terms = with_budget 100

abbrev read : List ℕ → Told
read page =
    let s = (end_page terms page).state.session in
    let c = s.drawing.look.colour in
    record {
      number = number_of (end_page terms page).answer;
      direct = c.green ∷ c.red ∷ c.blue ∷ [];
      mapped = shade_values (colour s 5);
      records = all_records terms page;
    }

-- Mode 0: the colour alone
abbrev direct : List ℕ → ℕ → ℕ → ℕ → Worked
direct page g r b =
    record {
      page = 14 ∷ page;
      told = record { number = 0; direct = g ∷ r ∷ b ∷ []; mapped = 0 ∷ 0 ∷ 0 ∷ []; records = [] };
    }

-- Modes 1 and 2 at the foreground 5: the map's entry and its record
abbrev entry : ℕ → ℕ → ℕ → ℕ → ℕ → Record
entry mode background g r b =
    record {
      kind = 8;
      flags = 0;
      mode = mode;
      colour0 = 5;
      colour1 = background;
      colour2 = 0;
      set = 0;
      code = 0;
      p0 = record { x = g; y = r };
      p1 = record { x = b; y = 0 };
      p2 = origin;
      pel = origin;
    }

abbrev mapped : List ℕ → ℕ → ℕ → ℕ → ℕ → ℕ → Worked
mapped page mode background g r b =
    record {
      page = 14 ∷ page;
      told =
          record {
            number = 0;
            direct = 255 ∷ 255 ∷ 255 ∷ [];
            mapped = g ∷ r ∷ b ∷ [];
            records = bytes_of_all (entry mode background g r b ∷ []);
          };
    }

worked : List Worked
worked =
    -- mode 0, N = 4: whole, and cut after 3, 2 and 1 bytes by the end; none leaves the colour
    direct (33 ∷ 76 ∷ 60 ∷ 107 ∷ 117 ∷ 84 ∷ 74 ∷ []) 180 105 210
    ∷ direct (33 ∷ 76 ∷ 60 ∷ 107 ∷ 117 ∷ 84 ∷ []) 180 104 208
    ∷ direct (33 ∷ 76 ∷ 60 ∷ 107 ∷ 117 ∷ []) 176 96 208
    ∷ direct (33 ∷ 76 ∷ 60 ∷ 107 ∷ []) 128 64 192
    ∷ direct (33 ∷ 76 ∷ 60 ∷ []) 255 255 255
    -- N = 3, as at first: more is ignored
    ∷ direct (60 ∷ 107 ∷ 117 ∷ 84 ∷ []) 180 104 208
    ∷ direct (60 ∷ 107 ∷ 117 ∷ 84 ∷ 74 ∷ 127 ∷ []) 180 104 208
    -- N = 1 and N = 8: bytes past the fourth give nothing
    ∷ direct (33 ∷ 64 ∷ 60 ∷ 107 ∷ 117 ∷ []) 128 64 192
    ∷ direct (33 ∷ 92 ∷ 60 ∷ 107 ∷ 117 ∷ 84 ∷ 74 ∷ 127 ∷ []) 180 105 210
    ∷ direct (33 ∷ 92 ∷ 60 ∷ 107 ∷ 117 ∷ 84 ∷ 74 ∷ 127 ∷ 127 ∷ 127 ∷ 127 ∷ []) 180 105 210
    -- in three dimensions as in two, and cut by another command
    ∷ direct (33 ∷ 108 ∷ 60 ∷ 107 ∷ 117 ∷ 36 ∷ []) 176 96 208
    -- mode 1: by completion and by closing
    ∷ mapped (62 ∷ 84 ∷ 60 ∷ 107 ∷ 117 ∷ 84 ∷ []) 1 0 180 104 208
    ∷ mapped (62 ∷ 84 ∷ 60 ∷ 107 ∷ 117 ∷ []) 1 0 176 96 208
    -- mode 2: the same
    ∷ mapped (62 ∷ 84 ∷ 88 ∷ 60 ∷ 107 ∷ 117 ∷ 84 ∷ []) 2 6 180 104 208
    ∷ mapped (62 ∷ 84 ∷ 88 ∷ 60 ∷ 107 ∷ []) 2 6 128 64 192
    ∷ []

pages_as_worked : map (λ w. read w.page) worked ≡ map (λ w. w.told) worked
unfolding rules worked
pages_as_worked = refl

-- The law on the same data, in every mode: cut after k bytes, each value is `cut_after k` of the whole one

abbrev cuts : List ℕ
cuts = 1 ∷ 2 ∷ 3 ∷ 4 ∷ []

abbrev cut : ℕ → List ℕ
cut k = 33 ∷ 76 ∷ 60 ∷ take k (107 ∷ 117 ∷ 84 ∷ 74 ∷ [])

cut_direct : ℕ → Worked
cut_direct k = direct (cut k) (cut_after k 180) (cut_after k 105) (cut_after k 210)

cut_mapped : ℕ → Worked
cut_mapped k = mapped (62 ∷ 84 ∷ cut k) 1 0 (cut_after k 180) (cut_after k 105) (cut_after k 210)

cut_two : ℕ → Worked
cut_two k = mapped (62 ∷ 84 ∷ 88 ∷ cut k) 2 6 (cut_after k 180) (cut_after k 105) (cut_after k 210)

law_as_worked : map (λ w. read w.page) (map cut_direct cuts ++ map cut_mapped cuts ++ map cut_two cuts)
    ≡ map (λ w. w.told) (map cut_direct cuts ++ map cut_mapped cuts ++ map cut_two cuts)
unfolding rules cut_direct cut_mapped cut_two
law_as_worked = refl
