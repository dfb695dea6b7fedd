-- Where a program with chosen lists stands: as the program does, but that the statements which remain name what is
-- chosen.
use Rattle.std.specs.Prelude.{List, map}
use Rattle.process_semantics.specs.State.{Entry, Run, Test, Last}
use Rattle.path_semantics.specs.Place.{Place, Stand}
use Rattle.advice.specs.Choice.{Choice, statement_with}

abbrev pub entry_with : Choice → Entry → Entry
entry_with choice (Run statement) = Run (statement_with choice statement)
entry_with choice (Test statement) = Test (statement_with choice statement)
entry_with choice (Last statement) = Last (statement_with choice statement)

abbrev pub frame_with : Choice → List Entry → List Entry
frame_with choice frame = map (entry_with choice) frame

abbrev pub place_with : Choice → Place → Place
place_with choice place = map (frame_with choice) place

-- with the same dues
abbrev pub stand_with : Choice → Stand → Stand
stand_with choice stand = record { place = place_with choice stand.place; dues = stand.dues }
