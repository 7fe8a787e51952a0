mod Playing
mod Replays
mod RefusedLines
mod WholeRefusals
