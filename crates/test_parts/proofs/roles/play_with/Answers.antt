use Rattle.test_parts.proofs.roles.play_with.Goals as goal

pub play_at_board-requires-clause-within : goal.play_at_board-requires-clause-within
play_at_board-requires-clause-within g c = c.in_ok-check_setup.ensures
