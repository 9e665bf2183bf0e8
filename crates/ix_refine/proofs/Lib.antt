mod NextOutcome
