use Rattle.shapes_tests.proofs.forest_tests.from_the_callees_on.Given as goal

abbrev pub ghosts-counted : goal.ghosts-counted
ghosts-counted g a = record { name = a.blank.name; parts = a.blank.parts }
