mod Blocks
mod Lending
mod Offers
