mod Elements
mod Firsts
mod Lasts
