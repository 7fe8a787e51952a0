mod Numbers
mod Readings
mod Plays
mod Scripts
mod Written
