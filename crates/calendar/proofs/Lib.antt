mod Days
mod Dates
mod ByWeek
mod Sound
mod Packs
mod Openings
mod Examples
