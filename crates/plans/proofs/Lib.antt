mod Candidates
