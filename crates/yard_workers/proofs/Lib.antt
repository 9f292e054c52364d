mod Later
mod Runs
