-- Where the small programs may stand, and what is due there.
use Rattle.std.specs.Prelude.{ℕ, Bool, true, false, List, [], ◌∷◌, ◌++◌, drop}
use Rattle.process_semantics.specs.State.{Entry, runs_of}
use Rattle.path_semantics.specs.declared.dues.Dues.{Dues}
use Rattle.path_semantics.specs.Dues.{no_dues, after_entry}
use Rattle.path_semantics.specs.Place.{Place, Stand, body_of}
use Rattle.advice_guards.specs.Programs.{two_lists, stopping, unreached, calling, targeting, shared, elements}
use Rattle.advice_guards.specs.Programs.{first_branch, second_branch, branching, round, again, until}
use Rattle.advice_guards.specs.Programs.{asking_once, asking_twice, asking_four, asking_five, turn, serving}

-- at a place, where these globals are due, these files were asked, and a request was read or not
abbrev stand : Place → List ℕ → List ℕ → Bool → Stand
stand place globals asked read =
    record { place = place; dues = record { globals = globals; asked = asked; read = read } }

-- along entries of MAIN alone, one after the other, to its end
abbrev along : Dues → List Entry → List Stand
along dues [] = record { place = []; dues = dues } ∷ []
along dues (entry ∷ rest) = record { place = (entry ∷ rest) ∷ []; dues = dues } ∷ along (after_entry dues entry) rest

-- in MAIN alone, where so many of its entries are done and these globals are due
abbrev main_after : List Entry → ℕ → List ℕ → Stand
main_after body count globals = stand (drop count body ∷ []) globals [] false

abbrev ended : List ℕ → Stand
ended globals = stand [] globals [] false

-- one after the other

abbrev pub two_stands : List Stand
two_stands = along no_dues (body_of two_lists 0)

abbrev pub two_ways : List (List ℕ)
two_ways = (1 ∷ []) ∷ (2 ∷ []) ∷ (3 ∷ []) ∷ (4 ∷ []) ∷ (5 ∷ []) ∷ [] ∷ []

abbrev pub element_stands : List Stand
element_stands = along no_dues (body_of elements 0)

abbrev pub three_ways : List (List ℕ)
three_ways = (1 ∷ []) ∷ (2 ∷ []) ∷ (3 ∷ []) ∷ [] ∷ []

abbrev pub once_stands : List Stand
once_stands = along no_dues (body_of asking_once 0)

abbrev pub twice_stands : List Stand
twice_stands = along no_dues (body_of asking_twice 0)

abbrev pub four_stands : List Stand
four_stands = along no_dues (body_of asking_four 0)

abbrev pub four_ways : List (List ℕ)
four_ways = (1 ∷ []) ∷ (2 ∷ []) ∷ (3 ∷ []) ∷ (4 ∷ []) ∷ [] ∷ []

abbrev pub five_stands : List Stand
five_stands = along no_dues (body_of asking_five 0)

-- with an IF, whose first branch stops

abbrev unreached_body : List Entry
unreached_body = body_of unreached 0

abbrev pub unreached_stands : List Stand
unreached_stands =
    main_after unreached_body 0 [] ∷ main_after unreached_body 1 (0 ∷ [])
    ∷ stand ((runs_of stopping ++ drop 2 unreached_body) ∷ []) (0 ∷ []) [] false
    ∷ main_after unreached_body 2 (0 ∷ []) ∷ ended (0 ∷ []) ∷ main_after unreached_body 3 [] ∷ ended [] ∷ []

abbrev pub unreached_ways : List (List ℕ)
unreached_ways = (1 ∷ []) ∷ (2 ∷ 3 ∷ []) ∷ (4 ∷ []) ∷ (5 ∷ []) ∷ [] ∷ (6 ∷ []) ∷ [] ∷ []

-- whose branches set another global each

abbrev branching_body : List Entry
branching_body = body_of branching 0

abbrev pub branching_stands : List Stand
branching_stands =
    main_after branching_body 0 [] ∷ stand ((runs_of first_branch ++ drop 1 branching_body) ∷ []) [] [] false
    ∷ stand ((runs_of second_branch ++ drop 1 branching_body) ∷ []) [] [] false ∷ main_after branching_body 1 (0 ∷ [])
    ∷ main_after branching_body 1 (1 ∷ [])
    ∷ ended [] ∷ []

abbrev pub branching_ways : List (List ℕ)
branching_ways = (1 ∷ 2 ∷ []) ∷ (3 ∷ []) ∷ (4 ∷ []) ∷ (5 ∷ []) ∷ (5 ∷ []) ∷ [] ∷ []

-- with a call

abbrev calling_body : List Entry
calling_body = body_of calling 1

abbrev pub calling_stands : List Stand
calling_stands =
    main_after calling_body 0 [] ∷ main_after calling_body 1 (0 ∷ [])
    ∷ stand (body_of calling 0 ∷ drop 1 calling_body ∷ []) (0 ∷ []) [] false
    ∷ main_after calling_body 2 (0 ∷ 1 ∷ []) ∷ ended [] ∷ []

abbrev targeting_body : List Entry
targeting_body = body_of targeting 1

abbrev pub targeting_stands : List Stand
targeting_stands =
    main_after targeting_body 0 [] ∷ stand (body_of targeting 0 ∷ targeting_body ∷ []) [] [] false
    ∷ main_after targeting_body 1 (0 ∷ []) ∷ ended [] ∷ []

abbrev shared_body : List Entry
shared_body = body_of shared 1

abbrev pub shared_stands : List Stand
shared_stands =
    main_after shared_body 0 [] ∷ main_after shared_body 1 (0 ∷ [])
    ∷ stand (body_of shared 0 ∷ drop 1 shared_body ∷ []) (0 ∷ []) [] false
    ∷ main_after shared_body 2 [] ∷ main_after shared_body 3 (1 ∷ [])
    ∷ stand (body_of shared 0 ∷ drop 3 shared_body ∷ []) (1 ∷ []) [] false ∷ ended [] ∷ []

abbrev pub shared_ways : List (List ℕ)
shared_ways = (1 ∷ []) ∷ (2 ∷ []) ∷ (3 ∷ []) ∷ (4 ∷ []) ∷ (5 ∷ []) ∷ (6 ∷ []) ∷ [] ∷ []

-- in a loop

abbrev again_body : List Entry
again_body = body_of again 0

abbrev round_body : List Entry
round_body = runs_of round ++ again_body

abbrev pub again_stands : List Stand
again_stands =
    main_after again_body 0 [] ∷ main_after round_body 0 [] ∷ ended [] ∷ main_after round_body 1 []
    ∷ main_after again_body 0 (0 ∷ [])
    ∷ main_after round_body 0 (0 ∷ []) ∷ ended (0 ∷ []) ∷ []

abbrev pub again_ways : List (List ℕ)
again_ways = (1 ∷ 2 ∷ []) ∷ (3 ∷ []) ∷ [] ∷ (4 ∷ []) ∷ (5 ∷ 6 ∷ []) ∷ (3 ∷ []) ∷ [] ∷ []

-- in a DO, whose body begins again where its test is false

abbrev until_body : List Entry
until_body = body_of until 0

abbrev pub until_stands : List Stand
until_stands =
    main_after until_body 0 [] ∷ main_after until_body 1 (0 ∷ []) ∷ main_after until_body 2 []
    ∷ main_after until_body 3 (1 ∷ []) ∷ main_after until_body 4 (1 ∷ []) ∷ main_after until_body 1 (1 ∷ [])
    ∷ ended [] ∷ []

abbrev pub until_ways : List (List ℕ)
until_ways = (1 ∷ []) ∷ (2 ∷ []) ∷ (3 ∷ []) ∷ (4 ∷ 5 ∷ []) ∷ (6 ∷ []) ∷ (2 ∷ []) ∷ [] ∷ []

-- a server

abbrev serving_body : List Entry
serving_body = body_of serving 0

abbrev turn_body : List Entry
turn_body = runs_of turn ++ serving_body

abbrev pub serving_stands : List Stand
serving_stands =
    main_after serving_body 0 [] ∷ ended [] ∷ stand (turn_body ∷ []) [] [] false
    ∷ stand (drop 1 turn_body ∷ []) (6 ∷ 5 ∷ []) [] true
    ∷ stand (drop 2 turn_body ∷ []) (6 ∷ 5 ∷ 0 ∷ []) [] true ∷ stand (drop 3 turn_body ∷ []) [] [] false
    ∷ stand (drop 4 turn_body ∷ []) (6 ∷ 5 ∷ []) (1 ∷ []) false
    ∷ stand (serving_body ∷ []) (6 ∷ 5 ∷ []) (1 ∷ []) false ∷ stand [] (6 ∷ 5 ∷ []) (1 ∷ []) false
    ∷ stand (turn_body ∷ []) (6 ∷ 5 ∷ []) (1 ∷ []) false
    ∷ stand (drop 1 turn_body ∷ []) (6 ∷ 5 ∷ 6 ∷ 5 ∷ []) (1 ∷ []) true
    ∷ stand (drop 2 turn_body ∷ []) (6 ∷ 5 ∷ 6 ∷ 5 ∷ 0 ∷ []) (1 ∷ []) true ∷ []

abbrev pub serving_ways : List (List ℕ)
serving_ways =
    (2 ∷ 1 ∷ []) ∷ [] ∷ (3 ∷ []) ∷ (4 ∷ []) ∷ (5 ∷ []) ∷ (6 ∷ []) ∷ (7 ∷ []) ∷ (9 ∷ 8 ∷ []) ∷ [] ∷ (10 ∷ [])
    ∷ (11 ∷ []) ∷ (5 ∷ []) ∷ []
