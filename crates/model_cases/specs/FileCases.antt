-- Computed cases on bytes: plan A's journal block, plan A's file, and the errors of reading and writing.
-- The bytes were written down from document 01 and are what the reference implementation writes, reads or refuses.
use Rattle.std.specs.Prelude.{ℕ, Bool, ◌&&◌, not, List, [], ◌∷◌, ◌++◌, eqb, ℤ, pos, take, drop, replicate}
use Rattle.model_problems.specs.Lists.{all, any_of, all_pairs}
use Rattle.model_problems.specs.Constraint.{Constraint, Box, equal}
use Rattle.model_problems.specs.Problem.{Problem}
use Rattle.model_files.specs.Bytes.{checksum}
use Rattle.model_files.specs.File.{padding_zero, read_error, read_file, file_of, write_error, write_file}
use Rattle.model_walk.specs.Search.{open_problem}
use Rattle.model_files.specs.Journal.{cut_in}
use Rattle.model_claims.specs.Demand.{journal}
use Rattle.model_walk.specs.Trace.{joined}
use Rattle.model_problems.specs.Examples.{neg, linear, divided, with_divisor, between, problem, A-first, A-domain, plan_a, is_ok}
use Rattle.model_cases.specs.Examples.{same_bytes, same_problem, filled}

-- ---- the check: of a block that begins with the words 1 and 2^32 − 1 and then holds zeros, at k = 3, it is 1 − 1 + 3 + 1
abbrev pub check_rule : Bool
check_rule = eqb (checksum 3 (1 ∷ 0 ∷ 0 ∷ 0 ∷ 255 ∷ 255 ∷ 255 ∷ 255 ∷ [])) 4

-- ---- the journal block of plan A's first turn
abbrev block_a : List ℕ
block_a =
    joined (
    (68 ∷ 69 ∷ 65 ∷ 68 ∷ []) ∷  -- bytes 0 to 3 the letters DEAD
    (1 ∷ 0 ∷ 0 ∷ 0 ∷ []) ∷  -- 4 the count after it
    (2 ∷ 0 ∷ 0 ∷ 0 ∷ []) ∷  -- 8 the first false line's number
    (3 ∷ 0 ∷ 0 ∷ 0 ∷ []) ∷  -- 12 the cut's number
    (1 ∷ 0 ∷ []) ∷  -- 16 depth met
    (1 ∷ 0 ∷ []) ∷  -- 18 d
    (1 ∷ 0 ∷ 0 ∷ 0 ∷ []) ∷  -- 20 the cut's constant
    (255 ∷ 255 ∷ 255 ∷ 255 ∷ []) ∷  -- and 32 coefficients: −1,
    replicate 124 0 ∷  -- 0, and 0 past n
    (0 ∷ 0 ∷ 0 ∷ 0 ∷ []) ∷  -- 152 the number of the line taken in, or 0: at v1 none,
    (1 ∷ 0 ∷ 0 ∷ 0 ∷ []) ∷  -- at v2 line 1,
    replicate 120 0 ∷  -- none past n
    replicate 228 0 ∷  -- then zeros
    (77 ∷ 69 ∷ 66 ∷ 68 ∷ []) ∷  -- 508 the check with k = count − 1
    [])

-- the list of turns has this block and no other
abbrev block_bytes : Bool
block_bytes = all_pairs same_bytes (journal 3 (open_problem (plan_a 5))) (block_a ∷ [])

-- the cut that is read in it
abbrev block_cut : Bool
block_cut = equal (cut_in 2 block_a) (linear (neg 1 ∷ pos 0 ∷ []) (pos 1))

-- ---- plan A's file
abbrev head_a : List ℕ
head_a =
    joined (
    (66 ∷ 76 ∷ 85 ∷ 69 ∷ []) ∷  -- bytes 0 to 3 the letters BLUE
    (2 ∷ 0 ∷ []) ∷  -- 4 to 5 n
    (2 ∷ 0 ∷ []) ∷  -- 6 to 7 m
    (5 ∷ 0 ∷ 0 ∷ 0 ∷ []) ∷  -- 8 to 11 B
    (0 ∷ 0 ∷ 0 ∷ 0 ∷ []) ∷  -- from byte 12 lo_1
    (1 ∷ 0 ∷ 0 ∷ 0 ∷ []) ∷  -- and hi_1,
    (0 ∷ 0 ∷ 0 ∷ 0 ∷ []) ∷  -- lo_2
    (1 ∷ 0 ∷ 0 ∷ 0 ∷ []) ∷  -- and hi_2
    replicate 480 0 ∷  -- all other bytes are zero
    (76 ∷ 76 ∷ 87 ∷ 69 ∷ []) ∷  -- 508 to 511 the check, k = 0
    [])

abbrev file_a : List ℕ
file_a =
    joined (
    head_a ∷
    (1 ∷ 0 ∷ 0 ∷ 0 ∷ []) ∷  -- line block 1: the constant c,
    (255 ∷ 255 ∷ 255 ∷ 255 ∷ []) ∷  -- a_1
    (255 ∷ 255 ∷ 255 ∷ 255 ∷ []) ∷  -- and a_2
    replicate 496 0 ∷
    (1 ∷ 0 ∷ 0 ∷ 0 ∷ []) ∷  -- the check, k = 1
    (0 ∷ 0 ∷ 0 ∷ 0 ∷ []) ∷  -- line block 2
    (255 ∷ 255 ∷ 255 ∷ 255 ∷ []) ∷
    (1 ∷ 0 ∷ 0 ∷ 0 ∷ []) ∷
    replicate 496 0 ∷
    (3 ∷ 0 ∷ 0 ∷ 0 ∷ []) ∷  -- the check, k = 2
    [])

-- reading gives plan A
abbrev reads_a : Bool
reads_a = is_ok (λ (p : Problem). same_problem p (plan_a 5)) (read_file file_a)

-- its file is these bytes
abbrev writes_a : Bool
writes_a = same_bytes (file_of (plan_a 5)) file_a

-- 'leaves bytes after them': into a buffer of 1,540 bytes that are all 7. (The checks' bytes are compared in `writes_a`.)
abbrev leaves_rest : Bool
leaves_rest =
    let w = write_file (plan_a 5) (replicate 1540 7) in
    all (eqb w.number 0 ∷ same_bytes (take 508 w.buffer) (take 508 file_a) ∷ same_bytes (drop 1536 w.buffer) (replicate 4 7) ∷ [])

-- 'the lent buffer keeps its bytes': one of 1,535 bytes
abbrev keeps_short : Bool
keeps_short =
    let w = write_file (plan_a 5) (replicate 1535 7) in
    eqb w.number 8 && same_bytes w.buffer (replicate 1535 7)

-- n, m, B and the limits of plan A, for a head with other letters or another m
abbrev fields_a : List ℕ → ℕ → List ℕ
fields_a letters m = joined (letters ∷ (2 ∷ 0 ∷ []) ∷ (m ∷ 0 ∷ []) ∷ (5 ∷ 0 ∷ 0 ∷ 0 ∷ []) ∷ (0 ∷ 0 ∷ 0 ∷ 0 ∷ 1 ∷ 0 ∷ 0 ∷ 0 ∷ []) ∷ (0 ∷ 0 ∷ 0 ∷ 0 ∷ 1 ∷ 0 ∷ 0 ∷ 0 ∷ []) ∷ [])

abbrev blue : List ℕ
blue = 66 ∷ 76 ∷ 85 ∷ 69 ∷ []

abbrev bluf : List ℕ
bluf = 66 ∷ 76 ∷ 85 ∷ 70 ∷ []

-- ---- a file with N1's q: limits 0 to 1, 5 | 2v1 − v2 − 3, B = 5
-- its line block up to byte 131
abbrev numbers_q : List ℕ
numbers_q = joined ((253 ∷ 255 ∷ 255 ∷ 255 ∷ []) ∷ (2 ∷ 0 ∷ 0 ∷ 0 ∷ []) ∷ (255 ∷ 255 ∷ 255 ∷ 255 ∷ []) ∷ replicate 120 0 ∷ [])

abbrev file_q : List ℕ
file_q = filled (fields_a blue 1) (76 ∷ 76 ∷ 86 ∷ 69 ∷ []) ++ filled (numbers_q ++ (5 ∷ 0 ∷ 0 ∷ 0 ∷ [])) (5 ∷ 0 ∷ 0 ∷ 0 ∷ [])

abbrev plan_q : Problem
plan_q = problem A-domain (divided 5 (pos 2 ∷ neg 1 ∷ []) (neg 3) ∷ []) 5

abbrev round_trip_q : Bool
round_trip_q = is_ok (λ (p : Problem). same_problem p plan_q) (read_file file_q) && same_bytes (file_of plan_q) file_q

-- ---- the errors of reading, on variants of these files: the first that applies in the order 1 to 5, 13, 6, 10, 7
-- 1: the length is no multiple of 512, or under 512
abbrev torn : Bool
torn = all (eqb (read_error (take 1535 file_a)) 1 ∷ eqb (read_error (take 511 file_a)) 1 ∷ eqb (read_error []) 1 ∷ [])

-- 2: a head alone whose check is one too high; its letters are wrong too
abbrev bad_check : Bool
bad_check = eqb (read_error (filled (fields_a bluf 0) (77 ∷ 76 ∷ 85 ∷ 70 ∷ []))) 2

-- 3: the letters are wrong; there are not 1 + m blocks either
abbrev not_a_plan : Bool
not_a_plan = eqb (read_error (filled (fields_a bluf 1) (76 ∷ 76 ∷ 86 ∷ 70 ∷ []))) 3

-- 4: m = 1 in a head alone: not 1 + m blocks; n = 0
abbrev wrong_size : Bool
wrong_size =
    eqb (read_error (filled (fields_a blue 1) (76 ∷ 76 ∷ 86 ∷ 69 ∷ []))) 4 &&
    eqb (read_error (filled (blue ++ (0 ∷ 0 ∷ 0 ∷ 0 ∷ 5 ∷ [])) (72 ∷ 76 ∷ 85 ∷ 69 ∷ []))) 4

-- 5: lo_2 = 2 above hi_2 = 1, no lines
abbrev wrong_limits : Bool
wrong_limits =
    eqb (read_error (filled (blue ++ (2 ∷ 0 ∷ 0 ∷ 0 ∷ 5 ∷ 0 ∷ 0 ∷ 0 ∷ 0 ∷ 0 ∷ 0 ∷ 0 ∷ 1 ∷ 0 ∷ 0 ∷ 0 ∷ 2 ∷ 0 ∷ 0 ∷ 0 ∷ 1 ∷ [])) (78 ∷ 76 ∷ 85 ∷ 69 ∷ []))) 5

-- 6: plan A's first line alone with a_2 = 2^30 + 1, and a byte after it that is not zero
abbrev heavy : Bool
heavy =
    eqb (read_error (filled (fields_a blue 1) (76 ∷ 76 ∷ 86 ∷ 69 ∷ []) ++ filled (1 ∷ 0 ∷ 0 ∷ 0 ∷ 255 ∷ 255 ∷ 255 ∷ 255 ∷ 1 ∷ 0 ∷ 0 ∷ 64 ∷ 1 ∷ []) (4 ∷ 0 ∷ 0 ∷ 64 ∷ []))) 6

-- 10: q is −1, and a byte after it is not zero; before it 6: a_2 = 2^30 + 1 and q = 1
abbrev pub indivisible : Bool
indivisible =
    let head = filled (fields_a blue 1) (76 ∷ 76 ∷ 86 ∷ 69 ∷ []) in
    eqb (read_error (head ++ filled (numbers_q ++ (255 ∷ 255 ∷ 255 ∷ 255 ∷ 1 ∷ [])) (0 ∷ 0 ∷ 0 ∷ 0 ∷ []))) 10 &&
    eqb (read_error (head ++ filled ((1 ∷ 0 ∷ 0 ∷ 0 ∷ 255 ∷ 255 ∷ 255 ∷ 255 ∷ 1 ∷ 0 ∷ 0 ∷ 64 ∷ []) ++ (replicate 120 0 ++ (1 ∷ []))) (4 ∷ 0 ∷ 0 ∷ 64 ∷ []))) 6

-- 7: no lines, and the byte after the last limit is 1
abbrev stray : Bool
stray = eqb (read_error (filled (fields_a blue 0 ++ (1 ∷ [])) (77 ∷ 76 ∷ 85 ∷ 69 ∷ []))) 7

-- its test alone, which leaves the checks out: the last byte before the check counts and the check does not; a line's bytes after its last coefficient,
-- but for q at 132 to 135
abbrev padding : Bool
padding =
    let plain = filled (fields_a blue 1) (9 ∷ 9 ∷ 9 ∷ 9 ∷ []) in
    let line : List ℕ = 1 ∷ 0 ∷ 0 ∷ 0 ∷ 255 ∷ 255 ∷ 255 ∷ 255 ∷ 255 ∷ 255 ∷ 255 ∷ 255 ∷ [] in
    let wide = line ++ replicate 120 0 in
    padding_zero (plain ++ filled line (9 ∷ 9 ∷ 9 ∷ 9 ∷ [])) &&
    (padding_zero (plain ++ filled (wide ++ (1 ∷ 2 ∷ 3 ∷ 4 ∷ [])) (9 ∷ 9 ∷ 9 ∷ 9 ∷ [])) &&
    not (any_of padding_zero (
    (plain ++ filled (line ++ (1 ∷ [])) (9 ∷ 9 ∷ 9 ∷ 9 ∷ [])) ∷
    (plain ++ filled (line ++ (replicate 119 0 ++ (1 ∷ []))) (9 ∷ 9 ∷ 9 ∷ 9 ∷ [])) ∷
    (plain ++ filled (wide ++ (0 ∷ 0 ∷ 0 ∷ 0 ∷ 1 ∷ [])) (9 ∷ 9 ∷ 9 ∷ 9 ∷ [])) ∷
    (take 507 plain ++ (1 ∷ 9 ∷ 9 ∷ 9 ∷ 9 ∷ filled line (9 ∷ 9 ∷ 9 ∷ 9 ∷ []))) ∷
    [])))

-- ---- the errors of writing into a buffer of that many bytes, with the edges of document 01
abbrev writing : Box → List Constraint → ℕ → ℕ → ℕ
writing d ks b room = write_error (problem d ks b) room

-- 8: under 512 × (1 + m) bytes
abbrev short_shelf : Bool
short_shelf = all (eqb (write_error (plan_a 5) 1536) 0 ∷ eqb (write_error (plan_a 5) 1535) 8 ∷ [])

-- 4: n 32 and 33, and 0; m 64 and 65; B 1,000,000,000 and one more; before 8
abbrev size_edges : Bool
size_edges =
    all (
    eqb (writing (replicate 32 (between (pos 0) (pos 1))) [] 5 512) 0 ∷
    eqb (writing (replicate 33 (between (pos 0) (pos 1))) [] 5 512) 4 ∷
    eqb (writing [] [] 5 512) 4 ∷
    eqb (writing A-domain (replicate 64 A-first) 5 33280) 0 ∷
    eqb (writing A-domain (replicate 65 A-first) 5 33792) 4 ∷
    eqb (writing A-domain [] 1_000_000_000 512) 0 ∷
    eqb (writing A-domain [] 1_000_000_001 0) 4 ∷
    [])

-- 5: limits 2^24 and one more, −2^24 and one less, lo above hi; after 4 and before 6. N12: a limit of 2^20 + 1 hides no other number
abbrev limit_edges : Bool
limit_edges =
    all (
    eqb (writing (between (neg 16_777_216) (pos 16_777_216) ∷ []) [] 5 512) 0 ∷
    eqb (writing (between (pos 0) (pos 16_777_217) ∷ []) [] 5 512) 5 ∷
    eqb (writing (between (neg 16_777_217) (pos 0) ∷ []) [] 5 512) 5 ∷
    eqb (writing (between (pos 0) (pos 1_048_577) ∷ []) (linear (pos 1_073_741_825 ∷ []) (pos 0) ∷ []) 5 1024) 6 ∷
    eqb (writing (between (neg 1_048_577) (pos 0) ∷ []) [] 5 511) 8 ∷
    eqb (writing (between (pos 1) (pos 0) ∷ []) (linear (pos 1_073_741_825 ∷ []) (pos 0) ∷ []) 5 1024) 5 ∷
    eqb (writing (between (pos 1) (pos 0) ∷ []) [] 1_000_000_001 512) 4 ∷
    [])

-- 6: a coefficient of −2^30 and one less, a constant of 2^30 and one more; before 8
abbrev range_edges : Bool
range_edges =
    all (
    eqb (writing A-domain (linear (neg 1_073_741_824 ∷ pos 0 ∷ []) (pos 1_073_741_824) ∷ []) 5 1024) 0 ∷
    eqb (writing A-domain (linear (neg 1_073_741_825 ∷ pos 0 ∷ []) (pos 0) ∷ []) 5 1024) 6 ∷
    eqb (writing A-domain (linear (pos 0 ∷ pos 0 ∷ []) (pos 1_073_741_825) ∷ []) 5 0) 6 ∷
    [])

-- 10: a divisor of −1, 0, 1, 2, 2^20 and one more; after 6 and before 8
abbrev dividing : ℤ → ℕ → ℕ
dividing q room = writing A-domain (with_divisor q A-first ∷ []) 5 room

abbrev divisor_edges : Bool
divisor_edges =
    all (
    eqb (dividing (neg 1) 1024) 10 ∷
    eqb (dividing (pos 0) 1024) 0 ∷
    eqb (dividing (pos 1) 0) 10 ∷
    eqb (dividing (pos 2) 1024) 0 ∷
    eqb (dividing (pos 2) 1023) 8 ∷
    eqb (dividing (pos 1_048_576) 1024) 0 ∷
    eqb (dividing (pos 1_048_577) 1024) 10 ∷
    eqb (writing A-domain (with_divisor (pos 1) A-first ∷ linear (neg 1_073_741_825 ∷ pos 0 ∷ []) (pos 0) ∷ []) 5 1536) 6 ∷
    [])

unfoldable pub file_cases : List Bool
file_cases =
    block_bytes ∷ block_cut ∷
    reads_a ∷ writes_a ∷ leaves_rest ∷ keeps_short ∷ round_trip_q ∷
    torn ∷ bad_check ∷ not_a_plan ∷ wrong_size ∷ wrong_limits ∷ heavy ∷ stray ∷ padding ∷
    short_shelf ∷ size_edges ∷ limit_edges ∷ range_edges ∷ divisor_edges ∷ []
